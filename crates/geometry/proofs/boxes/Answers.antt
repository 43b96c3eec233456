use mathlib.Core.Path.{◌∙◌}
use Rattle.token.proofs.Handed.{handed}
use Rattle.sign.proofs.Transcribing.{lies}
use Rattle.geometry.proofs.Answering.{refused_exact, boxes_unread, boxes_unmeasured, boxes_done}
use Rattle.geometry.proofs.boxes.Goals as goal

pub returns-in_err-head : goal.returns-in_err-head
returns-in_err-head c =
    rw (handed _ _ c.from_residual.ensures.1) (record { answer = boxes_unread _ _ _ _ c.read_into.ensures _ c.in_err-head.was _; exact = refused_exact _ })

pub measure-requires : goal.measure-requires
measure-requires c = let l = lies _ _ _ _ c.read_into.ensures _ c.in_ok-head.was in (l.symbols_most, l.valid.symbols)

pub returns-in_err-groups : goal.returns-in_err-groups
returns-in_err-groups c =
    rw (handed _ _ c.from_residual-in_err-groups.ensures.1)
    (record { answer = boxes_unmeasured _ _ _ _ c.read_into.ensures _ c.in_ok-head.was _ _ c.measure.ensures _ c.in_err-groups.was; exact = refused_exact _ })

pub returns : goal.returns
returns c =
    record {
      answer = c.bounds_with.ensures.is ∙ boxes_done _ _ _ _ c.read_into.ensures _ c.in_ok-head.was _ _ c.measure.ensures _ c.in_ok-groups.was;
      exact = c.bounds_with.ensures.exact;
    }
