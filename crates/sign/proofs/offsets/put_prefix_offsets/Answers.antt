use Rattle.std.proofs.Common.{◌∙◌}
use lib.Seq.{paste}
use Rattle.token.specs.Padded.{padded}
use Rattle.grammar.specs.Offsets.{steps}
use Rattle.sign.proofs.Stepping.{offsets_put}
use Rattle.sign.proofs.offsets.put_prefix_offsets.Goals as goal

pub returns : goal.returns
returns c =
    offsets_put _ _ 32 _ _ _ _ c.requires.1.fits c.put_offsets.ensures
    ∙ (λ i. paste c.args.to.now c.args.at (padded 32 (steps (c.marker_size-first.ensures i) (c.symbol_size-size.ensures i) c.args.p)) 32)
