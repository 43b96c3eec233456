use Rattle.std.proofs.Common.{◌∙◌}
use lib.Seq.{paste}
use Rattle.token.specs.Padded.{padded}
use Rattle.grammar.specs.Offsets.{steps}
use Rattle.sign.proofs.Stepping.{offsets_put}
use Rattle.sign.proofs.offsets.put_symbol_offsets.Goals as goal

pub returns : goal.returns
returns c =
    offsets_put _ _ 64 _ _ _ _ c.requires.2.fits c.put_offsets.ensures
    ∙ (λ i. paste c.args.to.now c.args.at (padded 64 (steps (c.sign_size-first.ensures i) (c.spatial_size-size.ensures i) c.args.n)) 64)
