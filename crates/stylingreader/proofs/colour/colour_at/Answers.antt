use Rattle.stylingreader.proofs.Colours.{colour_on, colour_over, colour_stops}
use Rattle.stylingreader.proofs.colour.colour_at.Goals as goal

pub returns-then-not-begins : goal.returns-then-not-begins
returns-then-not-begins c = colour_stops _ _ _ _ _ _ _ _ c.loop-i.invariant c.loop-i-test.true _ _ _ c.with-more.ensures.letters c.with-more.ensures.hexadecimal c.begins.ensures c.if-not-begins.true _ _ c.colour_end.ensures

pub loop-i-preserved : goal.loop-i-preserved
loop-i-preserved c = colour_on _ _ _ _ _ _ _ _ c.loop-i.invariant c.loop-i-test.true _ _ _ c.with-more.ensures.letters c.with-more.ensures.hexadecimal c.begins.ensures c.if-not-begins.false _ c.keep_byte.ensures

pub returns : goal.returns
returns c = colour_over _ _ _ _ _ _ _ _ c.loop-i.invariant c.loop-i-test.false _ _ c.colour_end-2.ensures
