-- The first reversed range of a query, and that there is none.
use Prim.Native.Nat.{ℕ, zero, suc}
use Prim.Native.Char.{code}
use mathlib.Core.List.{List, [], ◌∷◌, ◌++◌, map}
use mathlib.Core.Path.{◌≡◌, refl, sym, ap, ◌∙◌}
use mathlib.Core.Bool.{Bool, true, false, true≢false, false≢true}
use mathlib.Core.Logic.Iff
use mathlib.Core.Logic.{◌⊎◌, inl, inr, ◌↔◌}
use mathlib.Core.Option.{none, some}
use lib.Dec.{ltb}
use lib.ListN.{drop, get_or}
use lib.Seq.{get_or-drop}
use native.Mathlib.Omega.{arith}
use borrow.Author.Tests.{ltb-true, lt-ltb}
use Rattle.format.specs.Format.{All, choose}
use Rattle.format.proofs.Lists.{all_append, all_parts}
use Rattle.charset.specs.declared.Charset.TheVariants.{Fsw, Swu}
use Rattle.querygrammar.specs.declared.Edition.{Edition}
use Rattle.querygrammar.specs.declared.Edition.TheVariants.{First, Second}
use Rattle.querygrammar.specs.Spelling.{Item, key_item, range_item, null_item, Spelling, spelling}
use Rattle.querygrammar.specs.Query.{lists_of, sought_lists}
use Rattle.querygrammar.specs.QueryLaws.{Text}
use Rattle.querypart.specs.Spots.{reversed, Spot, first_reversed}
use Rattle.query.specs.Reading.{spots_of}
use Rattle.query.specs.ReadingLaws.{meant, NoneReversed, Stands, FirstReversed, joined}
use Rattle.query.proofs.Spots.{spots_items}

-- NONE

abbrev Forward : Item → Type 0
Forward item = reversed item ≡ false

none_found : (l : List Spot) → (first_reversed l ≡ none) ↔ All Forward (map (λ spot. spot.1) l)
none_found [] = (λ e. tt, λ k. refl)
none_found (spot ∷ l) = go (reversed spot.1) (none_found l)
  where
    go : (t : Bool) → (first_reversed l ≡ none) ↔ All Forward (map (λ spot. spot.1) l)
        → (choose t (some spot.0) (first_reversed l) ≡ none) ↔ ((t ≡ false) × All Forward (map (λ spot. spot.1) l))
    go true k = (λ e. absurd (let z : ◌≡◌ {A = ℕ} 0 1 = cc in omega arith), λ x. absurd (true≢false x.0))
    go false k = (λ e. (refl, k.0 e), λ x. k.1 x.1)

all_appended : {A : Type 0} (P : A → Type 0) (l m : List A) → All P (l ++ m) ↔ (All P l × All P m)
all_appended P l m = (all_parts P l m, λ k. all_append P l m k.0 k.1)

all_joined : {A : Type 0} (P : A → Type 0) (l : List (List A)) → All P (joined l) ↔ All (All P) l
all_joined P [] = (λ k. tt, λ k. tt)
all_joined P (a ∷ l) = Iff.trans (all_appended P a (joined l)) (λ k. (k.0, (all_joined P l).0 k.1), λ k. (k.0, (all_joined P l).1 k.1))

pub none_reversed : (e : Edition) (t : Text e) → (first_reversed (spots_of (spelling e) t) ≡ none) ↔ NoneReversed (meant e t)
none_reversed e t =
    let before = lists_of (meant e t).prefix in
    let boxed = sought_lists (meant e t) in
    Iff.trans (none_found (spots_of (spelling e) t))
    (rw (spots_items (spelling e) t) (Iff.trans (all_appended Forward (joined before) (joined boxed)) (Iff.and (all_joined Forward before) (all_joined Forward boxed))))

-- THE FIRST

record Found (l : List Spot) (place : ℕ) : Type 0 where
  pub from : ℕ
  pub to : ℕ
  pub wrong : ltb to from ≡ true
  pub before : List Spot
  pub after : List Spot
  pub is : l ≡ before ++ (place, range_item from to) ∷ after
  pub in_order : All (λ spot. reversed spot.1 ≡ false) before

module _ (place : ℕ) where
  found_later : (spot : Spot) (l : List Spot) → reversed spot.1 ≡ false → Found l place → Found (spot ∷ l) place
  found_later spot l w f =
      record { from = f.from; to = f.to; wrong = f.wrong; before = spot ∷ f.before; after = f.after; is = ap (λ m. spot ∷ m) f.is; in_order = (w, f.in_order) }

  found_range : (at from to : ℕ) (l : List Spot) → (first_reversed l ≡ some place → Found l place) → (t : Bool) → ltb to from ≡ t
      → choose t (some at) (first_reversed l) ≡ some place → Found ((at, range_item from to) ∷ l) place
  found_range at from to l next true w q =
      let z : at ≡ place = cc in
      rw (← z) (record { from = from; to = to; wrong = w; before = []; after = l; is = refl; in_order = tt })
  found_range at from to l next false w q = found_later (at, range_item from to) l w (next q)

  found : (l : List Spot) → first_reversed l ≡ some place → Found l place
  found [] q = absurd (let z : ◌≡◌ {A = ℕ} 0 1 = cc in omega arith)
  found ((at, key_item b f r) ∷ l) q = found_later (at, key_item b f r) l refl (found l q)
  found ((at, range_item from to) ∷ l) q = found_range at from to l (found l) (ltb to from) refl q
  found ((at, null_item) ∷ l) q = found_later (at, null_item) l refl (found l q)

first_after : (before : List Spot) (spot : Spot) (after : List Spot) → All (λ spot. reversed spot.1 ≡ false) before → reversed spot.1 ≡ true
    → first_reversed (before ++ spot ∷ after) ≡ some spot.0
first_after [] spot after k r = rw r
first_after (other ∷ before) spot after k r = rw k.0 (first_after before spot after k.1 r)

-- an item that is reversed is a range, and begins with R
range_letter : (e : Edition) (v : (spelling e).Says) (rest : List ℕ) → reversed ((spelling e).means v) ≡ true
    → (get_or ((spelling e).prefix_item.write v ++ rest) 0 0 ≡ code "R") × (get_or ((spelling e).signbox_item.write v ++ rest) 0 0 ≡ code "R")
range_letter First (inl (inl n)) rest w = absurd (false≢true w)
range_letter First (inl (inr k)) rest w = absurd (false≢true w)
range_letter First (inr r) rest w = (refl, refl)
range_letter (Second Fsw) (inl (inl n)) rest w = absurd (false≢true w)
range_letter (Second Fsw) (inl (inr k)) rest w = absurd (false≢true w)
range_letter (Second Fsw) (inr r) rest w = (refl, refl)
range_letter (Second Swu) (inl (zero, m)) rest w = absurd (false≢true w)
range_letter (Second Swu) (inl (suc c, m)) rest w = absurd (false≢true w)
range_letter (Second Swu) (inr r) rest w = (refl, refl)

module _ (e : Edition) (text : List ℕ) (place : ℕ) where
  abbrev s : Spelling
  s = spelling e

  stands_letter : (i : Item) (v : Stands s text (place, i)) → reversed i ≡ true → get_or text place 0 ≡ code "R"
  stands_letter i v w = ap (λ k. get_or text k 0) (omega arith) ∙ sym (get_or-drop place text 0 0) ∙ go v.is
    where
      letters : (get_or (s.prefix_item.write v.says ++ v.rest) 0 0 ≡ code "R") × (get_or (s.signbox_item.write v.says ++ v.rest) 0 0 ≡ code "R")
      letters = range_letter e v.says v.rest (ap reversed v.means ∙ w)

      go : (drop place text ≡ s.prefix_item.write v.says ++ v.rest) ⊎ (drop place text ≡ s.signbox_item.write v.says ++ v.rest) → get_or (drop place text) 0 0 ≡ code "R"
      go (inl q) = ap (λ t. get_or t 0 0) q ∙ letters.0
      go (inr q) = ap (λ t. get_or t 0 0) q ∙ letters.1

  -- the first reversed of the spots
  first_is : (t : Text e) → All (Stands s text) (spots_of s t) → first_reversed (spots_of s t) ≡ some place → FirstReversed e text t place
  first_is t a q =
      let f = found place (spots_of s t) q in
      let i = range_item f.from f.to in
      let v = (all_parts (Stands s text) f.before ((place, i) ∷ f.after) (rw f.is at a)).1.0 in
      record {
        letter = stands_letter i v f.wrong;
        from = f.from;
        to = f.to;
        below = ltb-true f.to f.from f.wrong;
        stands = v;
        before = f.before;
        after = f.after;
        is = f.is;
        in_order = f.in_order;
      }

  pub first_reversed_lem : (t : Text e) → All (Stands s text) (spots_of s t) → (first_reversed (spots_of s t) ≡ some place) ↔ FirstReversed e text t place
  first_reversed_lem t a = (first_is t a, λ f. ap first_reversed f.is ∙ first_after f.before (place, range_item f.from f.to) f.after f.in_order (lt-ltb f.to f.from f.below))
