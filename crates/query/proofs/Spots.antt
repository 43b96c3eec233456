-- Where the items of a query stand in its text.
use Prim.Native.Nat.{ℕ, ◌+◌}
use Prim.Native.Char.{code}
use mathlib.Core.List.{List, [], ◌∷◌, ◌++◌, append_assoc, map, map-append, map-map}
use mathlib.Core.Path.{◌≡◌, refl, sym, ap, ◌∙◌}
use mathlib.Core.Bool.{Bool, true, false}
use mathlib.Core.Logic.{inl, inr}
use mathlib.Core.Option.{Option, none, some}
use lib.ListN.{length, drop}
use lib.Seq.{drop_at, drop-drop}
use Rattle.format.specs.Format.{Format, All, optional, write_all}
use Rattle.format.proofs.Lists.{all_append}
use Rattle.charset.specs.Bytes.{after}
use Rattle.querygrammar.specs.Spelling.{Item, Spelling}
use Rattle.querygrammar.specs.Query.{ListText, SoughtText, HeadText, QueryText, others, list, coordinate, prefix_list, bare_list, signbox_list, head, variance, query, alternatives_of, sought_of, prefix_of, meaning, lists_of, sought_lists}
use Rattle.querypart.specs.Spots.{Spot, all_spots, other_spots, list_spots}
use Rattle.query.specs.Reading.{head_spots, spots_of}
use Rattle.query.specs.ReadingLaws.{Stands, joined}

-- what stands after the first part of what stands at an offset
onward : (text x y : List ℕ) (at : ℕ) → drop at text ≡ x ++ y → drop (at + length x) text ≡ y
onward text x y at e = sym (drop-drop (length x) at text) ∙ ap (drop (length x)) e ∙ drop_at x y (length x) refl

-- VALUES ONE AFTER THE OTHER, each with its spots

module _ {A : Type 0} (f : Format A) (spots : ℕ → A → List Spot) where
  all_items : (of : A → List Item) → ((at : ℕ) (a : A) → map (λ spot. spot.1) (spots at a) ≡ of a) → (at : ℕ) (l : List A) → map (λ spot. spot.1) (all_spots f spots at l) ≡ joined (map of l)
  all_items of k at [] = refl
  all_items of k at (a ∷ l) =
      let n = at + length (f.write a) in
      map-append (λ spot. spot.1) (spots at a) (all_spots f spots n l) ∙ λ i. k at a i ++ all_items of k n l i

  all_stand : (P : Spot → Type 0) (text : List ℕ) → ((at : ℕ) (a : A) (rest : List ℕ) → f.Valid a → drop at text ≡ f.write a ++ rest → All P (spots at a))
      → (at : ℕ) (l : List A) (rest : List ℕ) → All f.Valid l → drop at text ≡ write_all f.write l ++ rest → All P (all_spots f spots at l)
  all_stand P text put at [] rest ok e = tt
  all_stand P text put at (a ∷ l) rest ok e =
      let n = at + length (f.write a) in
      let r = write_all f.write l ++ rest in
      let x : drop at text ≡ f.write a ++ r = e ∙ append_assoc (f.write a) (write_all f.write l) rest in
      all_append P (spots at a) (all_spots f spots n l) (put at a r ok.0 x) (all_stand P text put n l rest ok.1 (onward text (f.write a) r at x))

-- ALTERNATIVES

module _ {A : Type 0} (f : Format A) (means : A → Item) where
  others_items : (at : ℕ) (l : List A) → map (λ spot. spot.1) (all_spots (after (code "o") f) (other_spots means) at l) ≡ map means l
  others_items at [] = refl
  others_items at (a ∷ l) = ap (λ m. means a ∷ m) (others_items (at + length ((after (code "o") f).write a)) l)

  list_items : (at : ℕ) (v : ListText A) → map (λ spot. spot.1) (list_spots f means at v) ≡ alternatives_of means v
  list_items at v = ap (λ m. means v.0 ∷ m) (others_items (at + length (f.write v.0)) v.1)

  module _ (P : Spot → Type 0) (text : List ℕ) (put : (at : ℕ) (a : A) (rest : List ℕ) → drop at text ≡ f.write a ++ rest → P (at, means a)) where
    others-stand : (joins : Bool) (at : ℕ) (l : List A) (rest : List ℕ) → (others joins f).Valid l → drop at text ≡ (others joins f).write l ++ rest
        → All P (all_spots (after (code "o") f) (other_spots means) at l)
    others-stand false at l rest ok e = rw ok tt
    others-stand true at l rest ok e =
        all_stand (after (code "o") f) (other_spots means) P text (λ at a rest ok e. (put (at + 1) a rest (onward text (code "o" ∷ []) (f.write a ++ rest) at e), tt)) at l rest ok e

    list-stand : (joins : Bool) (at : ℕ) (v : ListText A) (rest : List ℕ) → (list joins f).Valid v → drop at text ≡ (list joins f).write v ++ rest → All P (list_spots f means at v)
    list-stand joins at v rest ok e =
        let r = (others joins f).write v.1 ++ rest in
        let x : drop at text ≡ f.write v.0 ++ r = e ∙ append_assoc (f.write v.0) ((others joins f).write v.1) rest in
        (put at v.0 r x, others-stand joins (at + length (f.write v.0)) v.1 rest ok.1 (onward text (f.write v.0) r at x))

-- A QUERY

module _ (s : Spelling) where
  abbrev sought_spots : ℕ → SoughtText s.Says → List Spot
  sought_spots at v = list_spots s.signbox_item s.means at v.0

  -- all the items, in order
  head_items : (h : Option (HeadText s.Says)) → map (λ spot. spot.1) (head_spots s h) ≡ joined (lists_of (prefix_of s.means h))
  head_items none = refl
  head_items (some (inl t)) = refl
  head_items (some (inr p)) = all_items (prefix_list s) (list_spots s.prefix_item s.means) (alternatives_of s.means) (list_items s.prefix_item s.means) 2 (p.0.0 ∷ p.0.1)

  pub spots_items : (t : QueryText s.Says) → map (λ spot. spot.1) (spots_of s t) ≡ joined (lists_of (meaning s.means t).prefix) ++ joined (sought_lists (meaning s.means t))
  spots_items t =
      let n = 1 + length ((optional (head s)).write t.0) in
      let sought = all_items (signbox_list s) sought_spots (λ v. alternatives_of s.means v.0) (λ at v. list_items s.signbox_item s.means at v.0) n t.1.0 in
      map-append (λ spot. spot.1) (head_spots s t.0) (all_spots (signbox_list s) sought_spots n t.1.0)
      ∙ (λ i. head_items t.0 i ++ (sought ∙ ap joined (sym (map-map (λ q. q.alternatives) (sought_of s.means) t.1.0))) i)

  -- each is written at its offset
  module _ (text : List ℕ) where
    head-stand : (h : Option (HeadText s.Says)) (rest : List ℕ) → (optional (head s)).Valid h → drop 1 text ≡ (optional (head s)).write h ++ rest → All (Stands s text) (head_spots s h)
    head-stand none rest ok e = tt
    head-stand (some (inl t)) rest ok e = tt
    head-stand (some (inr p)) rest ok e =
        let l = p.0.0 ∷ p.0.1 in
        let w = write_all (prefix_list s).write l in
        let put = list-stand s.prefix_item s.means (Stands s text) text (λ at a rest e. record { says = a; means = refl; rest = rest; is = inl e }) s.joins in
        all_stand (prefix_list s) (list_spots s.prefix_item s.means) (Stands s text) text put 2 l (p.1 ∷ rest) ok.0
        (onward text (code "A" ∷ []) ((w ++ (p.1 ∷ [])) ++ rest) 1 e ∙ append_assoc w (p.1 ∷ []) rest)

    sought-stand : (at : ℕ) (v : SoughtText s.Says) (rest : List ℕ) → (signbox_list s).Valid v → drop at text ≡ (signbox_list s).write v ++ rest → All (Stands s text) (sought_spots at v)
    sought-stand at v rest ok e =
        let c = (optional (coordinate s)).write v.1 in
        list-stand s.signbox_item s.means (Stands s text) text (λ at a rest e. record { says = a; means = refl; rest = rest; is = inr e }) s.joins at v.0 (c ++ rest) ok.0
        (e ∙ append_assoc ((bare_list s).write v.0) c rest)

    pub spots_stand : (t : QueryText s.Says) → (query s).Valid t → text ≡ (query s).write t → All (Stands s text) (spots_of s t)
    spots_stand t ok e =
        let h = (optional (head s)).write t.0 in
        let d = variance.write t.1.1 in
        let r = write_all (signbox_list s).write t.1.0 ++ d in
        let x : drop 1 text ≡ h ++ r = ap (drop 1) e in
        all_append (Stands s text) (head_spots s t.0) (all_spots (signbox_list s) sought_spots (1 + length h) t.1.0) (head-stand t.0 r ok.0 x)
        (all_stand (signbox_list s) sought_spots (Stands s text) text sought-stand (1 + length h) t.1.0 d ok.1.0 (onward text h r 1 x))
