use mathlib.Core.Path.{sym, ◌∙◌}
use Rattle.narrowing.proofs.Told.{told_bad, told_good}
use Rattle.searching.proofs.Searching.{line_wrong_lem, room_short_lem, all_written, all_count, all_entries}
use Rattle.searching.proofs.words.search_all.Goals as goal

pub returns-in-Some : goal.returns-in-Some
returns-in-Some c = let w = told_bad _ _ (sym c.in-Some.is ∙ c.first_wrong.ensures) in line_wrong_lem _ _ _ _ _ _ w.is w.some

pub returns-then-list-n : goal.returns-then-list-n
returns-then-list-n c = room_short_lem _ _ _ _ _ (told_good _ (sym c.in_default.is ∙ c.first_wrong.ensures)) (all_count _) c.if-list-n.true

pub returns : goal.returns
returns c = all_written _ _ _ _ _ (told_good _ (sym c.in_default.is ∙ c.first_wrong.ensures)) (all_count _) c.if-list-n.false _ (all_entries _ _ _ c.number_entries.ensures)
