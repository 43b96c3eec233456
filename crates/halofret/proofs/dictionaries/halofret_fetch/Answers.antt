use mathlib.Core.Path.{refl, ◌∙◌}
use native.Mathlib.Omega.{arith}
use Rattle.fetching.proofs.Fetches.{Accepted, accepted}
use Rattle.halofret.proofs.Finding.{fetch_refused, fetch_first, fetch_second}
use Rattle.halofret.proofs.dictionaries.halofret_fetch.Goals as goal

pub returns-in-Err : goal.returns-in-Err
returns-in-Err c = c.refused.ensures ∙ fetch_refused _ _ _ c.in-Err.e c.in-Err.ensures

pub line_numbers-requires : goal.line_numbers-requires
line_numbers-requires c =
    let a : Accepted c.args.first.now c.args.second.now c.args.number = accepted _ _ _ _ c.in_default.ensures refl in
    omega arith

pub returns-then-number-firsts : goal.returns-then-number-firsts
returns-then-number-firsts c =
    let a : Accepted c.args.first.now c.args.second.now c.args.number = accepted _ _ _ _ c.in_default.ensures refl in
    c.line_numbers.ensures ∙ fetch_first _ _ _ a _ c.count-firsts.ensures c.if-number-firsts.true

pub line_numbers-requires-else-number-firsts : goal.line_numbers-requires-else-number-firsts
line_numbers-requires-else-number-firsts c =
    let a : Accepted c.args.first.now c.args.second.now c.args.number = accepted _ _ _ _ c.in_default.ensures refl in
    omega arith

pub returns-else-number-firsts : goal.returns-else-number-firsts
returns-else-number-firsts c =
    let a : Accepted c.args.first.now c.args.second.now c.args.number = accepted _ _ _ _ c.in_default.ensures refl in
    c.line_numbers-else-number-firsts.ensures ∙ fetch_second _ _ _ a _ c.count-firsts.ensures c.if-number-firsts.false
