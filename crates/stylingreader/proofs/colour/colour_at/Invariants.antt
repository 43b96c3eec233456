use Rattle.stylingreader.proofs.Colours.{ColourInv}
use Rattle.stylingreader.proofs.colour.colour_at.Given as goal

abbrev pub invariant-loop-i : goal.invariant-loop-i
invariant-loop-i l = ColourInv l.s l.at l.base l.i l.classes.letters l.classes.hexadecimal l.initial.to l.to
