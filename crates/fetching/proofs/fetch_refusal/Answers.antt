use mathlib.Core.Path.{refl, sym, ap, ◌∙◌}
use Rattle.lines.proofs.Counts.{count_refused, count_done}
use Rattle.token.proofs.Handed.{handed}
use Rattle.fetching.specs.Fetching.{as_refusal}
use Rattle.fetching.proofs.Fetches.{first_unended, second_unended, first_refused, second_refused, no-entry, past-entries, an-entry, answered}
use Rattle.fetching.proofs.fetch_refusal.Goals as goal
use Rattle.fetching.proofs.fetch_refusal.Goals.{then-not-is_ended-via-then-not-is_ended, then-not-is_ended-via-else-not-is_ended+then-not-is_ended-2, then-number-eq0-via-then-number-eq0, then-number-eq0-via-else-number-eq0+then-firsts-seconds}

pub returns-then-not-is_ended : goal.returns-then-not-is_ended
returns-then-not-is_ended c = elim c.then-not-is_ended.branch [
  | then-not-is_ended-via-then-not-is_ended w ↦ answered _ _ _ _ _ (first_unended _ _ _ (sym c.is_ended.ensures ∙ w.if-not-is_ended.true)) refl
  | then-not-is_ended-via-else-not-is_ended+then-not-is_ended-2 w ↦
      answered _ _ _ _ _ (second_unended _ _ _ (sym c.is_ended.ensures ∙ w.if-not-is_ended.false) (sym w.is_ended-else-not-is_ended.ensures ∙ w.if-not-is_ended-2.true)) refl
]

pub returns-in_err-firsts : goal.returns-in_err-firsts
returns-in_err-firsts c =
    answered _ _ _ _ _ (first_refused _ _ _ (sym c.if-not-is_ended.ensures) (sym c.if-not-is_ended-2.ensures) (count_refused _ c.count_lines.ensures c.in_err-firsts.was))
    (ap as_refusal (handed _ _ c.from_residual.ensures.1))

pub returns-in_err-seconds : goal.returns-in_err-seconds
returns-in_err-seconds c =
    let firsts = count_done _ c.count_lines.ensures c.in_ok-firsts.was in
    answered _ _ _ _ _ (second_refused _ _ _ (sym c.if-not-is_ended.ensures) (sym c.if-not-is_ended-2.ensures) firsts (count_refused _ c.count_lines-2.ensures c.in_err-seconds.was))
    (ap as_refusal (handed _ _ c.from_residual-in_err-seconds.ensures.1))

pub returns-then-number-eq0 : goal.returns-then-number-eq0
returns-then-number-eq0 c =
    let firsts = count_done _ c.count_lines.ensures c.in_ok-firsts.was in
    let seconds = count_done _ c.count_lines-2.ensures c.in_ok-seconds.was in
    elim c.then-number-eq0.branch [
      | then-number-eq0-via-then-number-eq0 w ↦
          answered _ _ _ _ _ (no-entry _ _ _ (sym c.if-not-is_ended.ensures) (sym c.if-not-is_ended-2.ensures) firsts seconds w.if-number-eq0.true) refl
      | then-number-eq0-via-else-number-eq0+then-firsts-seconds w ↦
          answered _ _ _ _ _ (past-entries _ _ _ (sym c.if-not-is_ended.ensures) (sym c.if-not-is_ended-2.ensures) firsts seconds w.if-number-eq0.false w.if-firsts-seconds.true) refl
    ]

pub returns : goal.returns
returns c =
    let firsts = count_done _ c.count_lines.ensures c.in_ok-firsts.was in
    let seconds = count_done _ c.count_lines-2.ensures c.in_ok-seconds.was in
    answered _ _ _ _ _ (an-entry _ _ _ (sym c.if-not-is_ended.ensures) (sym c.if-not-is_ended-2.ensures) firsts seconds c.if-number-eq0.false c.if-firsts-seconds.false) refl
