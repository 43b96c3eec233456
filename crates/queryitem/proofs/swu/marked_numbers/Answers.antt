use Prim.Native.Nat.{◌-◌, ◌/◌, ◌%◌}
use mathlib.Core.Logic.{inl, inr}
use Rattle.queryitem.proofs.SwuItems.{unmarked, marked_is}
use Rattle.queryitem.proofs.swu.marked_numbers.Goals as goal
use Rattle.queryitem.proofs.swu.marked_numbers.Goals.{then-fills, else-fills, then-rotations, else-rotations}

pub returns : goal.returns
returns c =
    marked_is _ _ _ _ _ _ _ c.requires.0 c.base_of.ensures
    (unmarked 102 ((c.args.code - 1) % 96 / 16) c.args.fills _ (elim c.if-fills.branch [ then-fills w ↦ inl (w.if-fills.true, w.fill-is) | else-fills w ↦ inr (w.if-fills.false, w.fill-is) ]))
    (unmarked 114 ((c.args.code - 1) % 96 % 16) c.args.rotations _ (elim c.if-rotations.branch [ then-rotations w ↦ inl (w.if-rotations.true, w.rotation-is) | else-rotations w ↦ inr (w.if-rotations.false, w.rotation-is) ]))
    c.key_numbers.ensures
