use mathlib.Core.Path.{◌≡◌, ◌∙◌}
use Rattle.writer.proofs.Writes.{wrote_as}
use Rattle.keylines.specs.Text.{decimal}
use Rattle.keylines.proofs.Decimal.{written_decimal}
use Rattle.keylines.proofs.line.put_decimal.Goals as goal

pub put_bytes-requires : goal.put_bytes-requires
put_bytes-requires c =
    let is : c.as_bytes.result.now ≡ decimal c.args.n = c.as_bytes.ensures.value ∙ c.format.ensures.text ∙ written_decimal c.args.n c.ranges.n.fits in
    rw is c.requires

pub returns : goal.returns
returns c = wrote_as c.put_bytes.ensures (c.as_bytes.ensures.value ∙ c.format.ensures.text ∙ written_decimal c.args.n c.ranges.n.fits)
