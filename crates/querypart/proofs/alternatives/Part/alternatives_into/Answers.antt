use mathlib.Core.Path.{sym, ◌∙◌}
use native.Mathlib.Omega.{arith}
use Rattle.token.proofs.Handed.{handed}
use Rattle.querypart.proofs.Lists.{list_fails, list-alone, list-room, list-fails-later, list-count, list_done}
use Rattle.querypart.proofs.alternatives.Part.alternatives_into.Goals as goal

pub returns-in_err-first : goal.returns-in_err-first
returns-in_err-first c = rw (handed _ _ c.from_residual.ensures.1) (list_fails c.args.self.edition c.args.self.boxed _ _ _ _ _ _ c.requires.0 c.one_into.ensures _ c.in_err-first.was)

pub returns-then-not-joins : goal.returns-then-not-joins
returns-then-not-joins c = list-alone c.args.self.edition c.args.self.boxed _ _ _ _ _ _ c.requires.0 c.one_into.ensures _ c.in_ok-first.was (sym c.joins.ensures ∙ c.if-not-joins.true)

pub others_into-requires : goal.others_into-requires
others_into-requires c = (list-room c.args.self.edition c.args.self.boxed _ _ _ _ _ _ c.requires.0 c.one_into.ensures _ c.in_ok-first.was, omega (arith, c.requires.1, c.one_into.ensures.size))

pub returns-in_err-others : goal.returns-in_err-others
returns-in_err-others c = rw (handed _ _ c.from_residual-in_err-others.ensures.1) (list-fails-later c.args.self.edition c.args.self.boxed _ _ _ _ _ _ c.requires.0 c.one_into.ensures _ c.in_ok-first.was (sym c.joins.ensures ∙ c.if-not-joins.false) _ _ c.others_into.ensures _ c.in_err-others.was)

pub overflow_add-result : goal.overflow_add-result
overflow_add-result c = omega (arith, list-count c.args.self.edition c.args.self.boxed _ _ _ _ _ _ c.requires.0 c.one_into.ensures _ c.in_ok-first.was (sym c.joins.ensures ∙ c.if-not-joins.false) _ _ c.others_into.ensures _ c.in_ok-others.was)

pub returns : goal.returns
returns c = list_done c.args.self.edition c.args.self.boxed _ _ _ _ _ _ c.requires.0 c.one_into.ensures _ c.in_ok-first.was (sym c.joins.ensures ∙ c.if-not-joins.false) _ _ c.others_into.ensures _ c.in_ok-others.was _ c.or.ensures
