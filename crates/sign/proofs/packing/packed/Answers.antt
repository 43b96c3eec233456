use Rattle.std.proofs.Common.{refl, ◌∙◌}
use Rattle.token.specs.Padded.{zeros}
use Rattle.token.proofs.PaddedLists.{padded_length}
use Rattle.sign.proofs.Readings.{packed_with}
use Rattle.sign.proofs.Eights.{paste_whole}
use Rattle.sign.proofs.packing.packed.Goals as goal

pub returns : goal.returns
returns c =
    packed_with _ c.args.head c.args.symbols.now _ _
    (c.put_prefix_offsets.ensures ∙ paste_whole 32 (zeros 32) _ refl (padded_length 32 _)) (c.put_symbol_offsets.ensures ∙ paste_whole 64 (zeros 64) _ refl (padded_length 64 _))
