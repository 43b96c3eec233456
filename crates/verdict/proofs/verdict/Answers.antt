use mathlib.Core.Path.{refl}
use native.Mathlib.Omega.{arith}
use Rattle.query.proofs.Answers.{all_fit, short_fit}
use Rattle.verdict.proofs.verdict.Goals as goal

pub verdict_in_words-requires : goal.verdict_in_words-requires
verdict_in_words-requires c = ((omega arith, refl), short_fit c.args.edition _ 121 (omega (arith, c.if-query-le-SHORT_QUERY.true)))

pub verdict_in_words-requires-else-query-le-SHORT_QUERY : goal.verdict_in_words-requires-else-query-le-SHORT_QUERY
verdict_in_words-requires-else-query-le-SHORT_QUERY c = ((omega arith, refl), all_fit c.args.edition _)
