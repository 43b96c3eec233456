use native.Mathlib.Omega.{arith}
use lib.ListN.{length-drop}
use Rattle.styling.proofs.Entries.{fill_slices, fill_read}
use Rattle.styling.proofs.text.fill.Goals as goal

pub returns-then-draft-le-DRAFTED : goal.returns-then-draft-le-DRAFTED
returns-then-draft-le-DRAFTED c =
    fill_slices _ _ c.requires c.if-draft-le-DRAFTED.true _ _ _ c.copy_from_slice.ensures.after (omega (arith, length-drop 504 c.args.styling.now, c.told-styling)) (c.fill.ensures.after (λ y e. e))

pub returns-else-draft-le-DRAFTED : goal.returns-else-draft-le-DRAFTED
returns-else-draft-le-DRAFTED c =
    fill_read _ _ c.requires _ _ c.styling_at.ensures
