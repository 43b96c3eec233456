use native.Mathlib.Omega.{arith}
use mathlib.Core.Path.{sym, ◌∙◌}
use Rattle.fetching.proofs.Fetches.{Accepted, accepted_by, refused_part, first_part, second_part}
use Rattle.fetching.proofs.fetch.Goals as goal

pub returns-then-is_err : goal.returns-then-is_err
returns-then-is_err c = refused_part _ _ _ _ c.fetch_refusal.ensures (sym c.is_err.ensures.value ∙ c.if-is_err.true)

pub line-requires : goal.line-requires
line-requires c =
    let entry : Accepted c.args.first.now c.args.second.now c.args.number = accepted_by _ _ _ _ c.fetch_refusal.ensures (sym c.is_err.ensures.value ∙ c.if-is_err.false) in
    let a = entry in
    omega arith

pub returns-then-number-firsts : goal.returns-then-number-firsts
returns-then-number-firsts c =
    let entry : Accepted c.args.first.now c.args.second.now c.args.number = accepted_by _ _ _ _ c.fetch_refusal.ensures (sym c.is_err.ensures.value ∙ c.if-is_err.false) in
    let p = first_part c.args.first c.args.second _ (entry) _ c.count-firsts.ensures c.if-number-firsts.true in
    record { bytes = c.line.ensures.bytes ∙ p.bytes; place = c.line.ensures.place ∙ p.place }

pub line-requires-2 : goal.line-requires-2
line-requires-2 c =
    let entry : Accepted c.args.first.now c.args.second.now c.args.number = accepted_by _ _ _ _ c.fetch_refusal.ensures (sym c.is_err.ensures.value ∙ c.if-is_err.false) in
    let a = entry in
    omega arith

pub returns : goal.returns
returns c =
    let entry : Accepted c.args.first.now c.args.second.now c.args.number = accepted_by _ _ _ _ c.fetch_refusal.ensures (sym c.is_err.ensures.value ∙ c.if-is_err.false) in
    let p = second_part c.args.first c.args.second _ (entry) _ c.count-firsts.ensures c.if-number-firsts.false in
    record { bytes = c.line-2.ensures.bytes ∙ p.bytes; place = c.line-2.ensures.place ∙ p.place }
