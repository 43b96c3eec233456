use Rattle.matching.specs.Inner.{fits_at}
use Rattle.matching.proofs.Tests.{fits_one_lem, fitting_hit, fitting_on, fitting_none}
use Rattle.matching.proofs.judging.Row.fits.Goals as goal

pub returns-then-n-eq1 : goal.returns-then-n-eq1
returns-then-n-eq1 c = fits_one_lem _ _ _ _ c.if-n-eq1.true c.fits_one.ensures

pub returns-then-fits_one : goal.returns-then-fits_one
unfolding fits_at
returns-then-fits_one c = fitting_hit _ _ _ _ _ c.loop-k.invariant c.loop-k-test.true c.if-fits_one.ensures

pub loop-k-preserved : goal.loop-k-preserved
loop-k-preserved c = fitting_on _ _ _ _ _ c.loop-k.invariant c.loop-k-test.true c.if-fits_one.ensures

pub returns : goal.returns
unfolding fits_at
returns c = fitting_none _ _ _ _ _ c.loop-k.invariant c.loop-k-test.false
