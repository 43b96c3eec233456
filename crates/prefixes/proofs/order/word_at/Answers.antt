use Rattle.charset.specs.declared.Charset.TheVariants.{Fsw, Swu}
use Rattle.prefixes.proofs.Reading.{word_told}
use Rattle.prefixes.proofs.order.word_at.Goals as goal

pub returns-in-Fsw : goal.returns-in-Fsw
returns-in-Fsw c = record { is = rw (c.in-Fsw.is, c.word.ensures.is) (word_told Fsw _ _); small = c.word.ensures.small }

pub returns-in-Swu : goal.returns-in-Swu
returns-in-Swu c = record { is = rw (c.in-Swu.is, c.word-in-Swu.ensures.is) (word_told Swu _ _); small = c.word-in-Swu.ensures.small }
