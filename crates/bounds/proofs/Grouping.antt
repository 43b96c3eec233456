-- One symbol more: what taking it into the three groups makes of the groups of a list.
use Prim.Native.Nat.{ℕ, ◌+◌}
use mathlib.Core.Path.{◌≡◌, refl, sym, ap, ◌∙◌}
use mathlib.Core.Bool.{Bool, true, false, ◌||◌}
use mathlib.Core.List.{List, [], ◌∷◌, ◌++◌, append-nil, map, map-append}
use native.Mathlib.Numerals.{add-one}
use Rattle.format.specs.Format.{choose, keep}
use Rattle.format.proofs.Keeping.{keep_more}
use Rattle.grammar.specs.Sign.{Spatial}
use Rattle.writer.specs.Arrays.{upto}
use Rattle.bounds.specs.declared.groups.Box.{Box}
use Rattle.bounds.specs.Boxes.{symbol_box, grown, grown_all, Group, group_of, is_head, is_trunk, group_in, three_groups, no_groups, groups_of}
use Rattle.bounds.specs.Inner.{grown_at, with_symbol}

pub upto_more : {A : Type 0} (g : ℕ → A) (i : ℕ) → upto g (i + 1) ≡ upto g i ++ (g i ∷ [])
unfolding upto
upto_more g i = rw add-one

grown_more : (a : Box) (l : List Box) (b : Box) → grown_all a (l ++ (b ∷ [])) ≡ grown (grown_all a l) b
unfolding grown_all
grown_more a [] b = refl
grown_more a (c ∷ l) b = grown_more (grown a c) l b

-- a group that takes in one box more
abbrev taken : Group → Box → Group
taken g b = record { present = true; box = choose g.present (grown g.box b) b }

group_more : (l : List Box) (b : Box) → group_of (l ++ (b ∷ [])) ≡ taken (group_of l) b
unfolding grown_all
group_more [] b = refl
group_more (a ∷ l) b = λ i. record { present = true; box = grown_more a l b i }

in_more : (picks : ℕ → Bool) (sizes : List ℕ) (l : List Spatial) (s : Spatial)
    → group_in picks sizes (l ++ (s ∷ [])) ≡ choose (picks s.code) (taken (group_in picks sizes l) (symbol_box sizes s)) (group_in picks sizes l)
unfolding keep
in_more picks sizes l s =
    let kept = keep (λ t. picks t.code) l in
    ap (λ m. group_of (map (symbol_box sizes) m)) (keep_more (λ t. picks t.code) l s) ∙ go kept (picks s.code)
  where
    go : (kept : List Spatial) (t : Bool)
        → group_of (map (symbol_box sizes) (kept ++ choose t (s ∷ []) [])) ≡ choose t (taken (group_of (map (symbol_box sizes) kept)) (symbol_box sizes s)) (group_of (map (symbol_box sizes) kept))
    go kept true = ap group_of (map-append (symbol_box sizes) kept (s ∷ [])) ∙ group_more (map (symbol_box sizes) kept) (symbol_box sizes s)
    go kept false = ap (λ m. group_of (map (symbol_box sizes) m)) (append-nil kept)

-- which groups a symbol goes to, by whether it is a head and whether it is a trunk
three_more : (h t : Bool) (a b c : Group) (x : Box)
    → choose h (grown_at (grown_at (grown_at (three_groups a b c) 2 x) 1 x) 0 x)
    (choose t (grown_at (grown_at (three_groups a b c) 2 x) 1 x) (grown_at (three_groups a b c) 2 x))
    ≡ three_groups (choose h (taken a x) a) (choose (h || t) (taken b x) b) (taken c x)
three_more true t a b c x = refl
three_more false true a b c x = refl
three_more false false a b c x = refl

pub groups_none : (sizes : List ℕ) → no_groups ≡ groups_of sizes []
unfolding groups_of keep
groups_none sizes = refl

pub groups_more : (sizes : List ℕ) (l : List Spatial) (s : Spatial)
    → with_symbol (groups_of sizes l) s.code (symbol_box sizes s) ≡ groups_of sizes (l ++ (s ∷ []))
unfolding groups_of
groups_more sizes l s =
    let body : ℕ → Bool = λ code. is_head code || is_trunk code in
    let every : ℕ → Bool = λ code. true in
    three_more (is_head s.code) (is_trunk s.code) (group_in is_head sizes l) (group_in body sizes l) (group_in every sizes l) (symbol_box sizes s)
    ∙ (λ i. three_groups (sym (in_more is_head sizes l s) i) (sym (in_more body sizes l s) i) (sym (in_more every sizes l s) i))
