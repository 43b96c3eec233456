use Rattle.matching.proofs.Rows.{begun_short, begun_not, begun_all}
use Rattle.matching.proofs.judging.Conditions.after_rows.Goals as goal

pub returns-then-codes-m : goal.returns-then-codes-m
returns-then-codes-m c = begun_short c.args.self.words.now c.args.codes.now _ c.if-codes-m.true

pub returns-then-not-fits : goal.returns-then-not-fits
returns-then-not-fits c = begun_not _ _ _ _ _ c.loop-code.invariant c.if-codes-m.false c.loop-code-test.true c.fits.ensures c.if-not-fits.true

pub returns : goal.returns
returns c = begun_all _ _ _ _ _ c.loop-code.invariant c.if-codes-m.false c.loop-code-test.false
