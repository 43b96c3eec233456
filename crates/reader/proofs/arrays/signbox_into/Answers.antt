use Rattle.std.proofs.Common.{arith}
use Rattle.token.proofs.Handed.{handed}
use Rattle.reader.proofs.Signboxes.{lead_room, box_leadless, box-refused, box_read}
use Rattle.reader.proofs.arrays.signbox_into.Goals as goal

pub returns-in_err-lead : goal.returns-in_err-lead
returns-in_err-lead c = rw (handed _ _ c.from_residual.ensures.1) (box_leadless _ _ _ _ _ c.in_err-lead.field-0.0 (grind arith))

pub symbols_into-requires : goal.symbols_into-requires
symbols_into-requires c =
    (lead_room c.args.set c.args.s.now c.args.at c.args.prefix_count c.in_ok-lead.lead _ (grind arith) c.lead_size-size.ensures, c.requires.1)

pub returns-in_err-found : goal.returns-in_err-found
returns-in_err-found c =
    rw (handed _ _ c.from_residual-in_err-found.ensures.1)
    (box-refused _ _ _ _ c.in_ok-lead.lead _ (grind arith) c.lead_size-size.ensures _ _ _ c.symbols_into.ensures _ c.in_err-found.was)

pub returns : goal.returns
returns c = box_read _ _ _ _ c.in_ok-lead.lead _ (grind arith) c.lead_size-size.ensures _ _ _ c.symbols_into.ensures _ c.in_ok-found.was
