use Rattle.stylingwriter.proofs.StyleWrites.{styles_putting, room_left}
use Rattle.stylingwriter.proofs.writing.put_styles.Goals as goal

pub put-next-requires : goal.put-next-requires
put-next-requires g c = rw c.style.ensures (room_left g.K.Kind.text g.K.Kind.room _ c.requires.1 c.loop-k.invariant c.loop-k-test.true)

pub loop-k-preserved : goal.loop-k-preserved
loop-k-preserved g c =
    styles_putting g.K.Kind.text g.K.Kind.room _ c.loop-k.invariant
    (rw c.style.ensures at c.put-next.ensures.wrote)
    (rw c.style.ensures at c.put-next.ensures.most)
