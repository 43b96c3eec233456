-- No number of a box is over 1,004, where sizes are bytes and coordinates at most 749: so twice a centre is small.
use Prim.Native.Nat.{ℕ, zero, suc, ◌+◌, ◌-◌, ◌*◌, ◌^◌, ◌≤◌, ◌<◌}
use mathlib.Core.Bool.{Bool, true, false}
use mathlib.Core.List.{List, [], ◌∷◌, map}
use native.Mathlib.Omega.{arith}
use lib.ListN.{get_or}
use Rattle.format.specs.Format.{choose, All, keep}
use Rattle.format.proofs.Lists.{all_map, all_weaker}
use Rattle.format.proofs.Keeping.{keep_all}
use Rattle.grammar.specs.Sign.{Spatial, ValidSymbol}
use Rattle.bounds.specs.declared.groups.Box.{Box}
use Rattle.bounds.specs.Boxes.{width_of, height_of, symbol_box, grown, grown_all, zero_box, group_of, group_in, groups_of, is_head}
use Rattle.bounds.specs.Centre.{head, head_with_trunk, all, box_of, chosen_box, doubled_of}

record Small (b : Box) : Type 0 where
  left : b.left ≤ 1004
  top : b.top ≤ 1004
  right : b.right ≤ 1004
  bottom : b.bottom ≤ 1004

zero_small : Small zero_box
zero_small = record { left = omega arith; top = omega arith; right = omega arith; bottom = omega arith }

grown_small : (a : Box) (l : List Box) → Small a → All Small l → Small (grown_all a l)
unfolding grown_all
grown_small a [] h k = h
grown_small a (b ∷ l) h k =
    let p = k.0 in
    grown_small (grown a b) l (record { left = omega arith; top = omega arith; right = omega arith; bottom = omega arith }) k.1

group_small : (l : List Box) → All Small l → Small (group_of l).box
group_small [] h = zero_small
group_small (a ∷ l) h = grown_small a l h.0 h.1

choose_small : (t : Bool) (a b : Box) → Small a → Small b → Small (choose t a b)
choose_small true a b h k = h
choose_small false a b h k = k

byte_at : (l : List ℕ) (i : ℕ) → All (λ b. b ≤ 255) l → get_or l i 0 ≤ 255
byte_at [] i h = omega arith
byte_at (b ∷ l) zero h = h.0
byte_at (b ∷ l) (suc i) h = byte_at l i h.1

module _ (sizes : List ℕ) (bytes : All (λ b. b ≤ 255) sizes) where
  symbol_small : (s : Spatial) → ValidSymbol s → Small (symbol_box sizes s)
  symbol_small s v =
      let w : width_of sizes s.code ≤ 255 = byte_at sizes (2 * (s.code - 1)) bytes in
      let t : height_of sizes s.code ≤ 255 = byte_at sizes (2 * (s.code - 1) + 1) bytes in
      let x = v.1.0.1 in
      let y = v.1.1.1 in
      record { left = omega arith; top = omega arith; right = omega arith; bottom = omega arith }

  module _ (l : List Spatial) (valid : All ValidSymbol l) where
    in_small : (picks : ℕ → Bool) → Small (group_in picks sizes l).box
    in_small picks =
        let kept = keep (λ s. picks s.code) l in
        group_small (map (symbol_box sizes) kept)
        (all_map Small (symbol_box sizes) kept
        (all_weaker ValidSymbol (λ s. Small (symbol_box sizes s)) symbol_small kept (keep_all ValidSymbol (λ s. picks s.code) l valid)))

    box-small : (group : ℕ) → Small (box_of (groups_of sizes l) group)
    unfolding groups_of
    box-small zero = in_small is_head
    box-small (suc zero) = in_small _
    box-small (suc (suc zero)) = in_small (λ code. true)
    box-small (suc (suc (suc group))) = zero_small

    chosen-small : (group : ℕ) → Small (chosen_box (groups_of sizes l) group)
    chosen-small group =
        let g = groups_of sizes l in
        choose_small (get_or g.present group false) (box_of g group) (box_of g all) (box-small group) (box-small all)

    pub doubled_small : ((doubled_of (groups_of sizes l)).x < 2 ^ 24) × ((doubled_of (groups_of sizes l)).y < 2 ^ 24)
    doubled_small =
        let a = chosen-small head in
        let b = chosen-small head_with_trunk in
        (omega arith, omega arith)
