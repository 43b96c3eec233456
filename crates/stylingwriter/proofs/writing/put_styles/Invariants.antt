use Rattle.stylingwriter.proofs.StyleWrites.{PuttingStyles}
use Rattle.stylingwriter.proofs.writing.put_styles.Given as goal

abbrev pub invariant-loop-k : goal.invariant-loop-k
invariant-loop-k g l = PuttingStyles g.K.Kind.text g.K.Kind.room l.styling.numbers.now l.initial.out l.out l.at l.next l.k
