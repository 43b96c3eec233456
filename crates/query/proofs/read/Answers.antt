use Rattle.std.proofs.Common.{rules}
use Rattle.query.proofs.Answers.{reading_done}
use Rattle.query.proofs.read.Goals as goal

pub returns : goal.returns
returns c = search (rules, reading_done c.args.edition c.args.text.now c.read_into.result c.read_into.new.words c.read_into.ensures)
