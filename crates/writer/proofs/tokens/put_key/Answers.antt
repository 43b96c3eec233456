use Rattle.writer.proofs.Writes.{wrote_more, wrote_as}
use Rattle.writer.proofs.Keys.{Parts, parts_spell}
use Rattle.writer.proofs.tokens.put_key.Goals as goal

pub returns : goal.returns
returns c =
    let parts : Parts c.args.code c.key_parts-base.result.0 c.key_parts-base.result.1 = rw c.key_parts-base.ensures (parts_spell c.args.code c.requires.1) in
    wrote_as (wrote_more (wrote_more c.put_byte-next.ensures c.put_three-last.ensures) c.put_two.ensures) parts.text
