-- What the check of a dictionary tells.
use Prim.Native.Nat.{ℕ, ◌≤◌}
use mathlib.Core.Path.{◌≡◌, sym, ap, ◌∙◌}
use mathlib.Core.List.{List}
use mathlib.Core.Bool.{true}
use lib.ListN.{length}
use native.Mathlib.Omega.{arith}
use borrow.Author.Tests.{leb-true}
use Rattle.std.specs.Prelude.{Result as Answer, Ok, Err}
use Rattle.token.specs.declared.refusal.Refusal.{Refusal}
use Rattle.token.specs.Refusal.{number_of, place_of}
use Rattle.token.specs.Result.{refusal, done, outcome}
use Rattle.token.proofs.Checks.{check_done}
use Rattle.lines.specs.Lines.{lines, ended, few_lines}
use Rattle.lines.specs.Checked.{check_few, line_count}

-- a dictionary that is not refused
pub record Whole (d : List ℕ) (n : ℕ) : Type 0 where
  pub whole : ended d ≡ true
  pub few : n ≤ 65535
  pub lines : n ≡ length (lines d)

pub count_whole : (d : List ℕ) (n : ℕ) → line_count d ≡ done n → Whole d n
count_whole d n e =
    let a = check_done (ended d) 12 0 (check_few (length (lines d)) (done (length (lines d)))) e in
    let b = check_done (few_lines d) 14 0 (done (length (lines d))) a.1 in
    let same : length (lines d) ≡ n = cc b.1 in
    record { whole = a.0; few = omega (arith, leb-true (length (lines d)) 65535 b.0); lines = sym same }

-- what its answer says
module _ (d : List ℕ) {q : Answer ℕ Refusal} (e : outcome q ≡ line_count d) where
  pub count_refused : {r : Refusal} → q ≡ Err r → refusal (number_of r) (place_of r) ≡ line_count d
  count_refused was = sym (ap outcome was) ∙ e

  pub count_done : {n : ℕ} → q ≡ Ok n → done n ≡ line_count d
  count_done was = sym (ap outcome was) ∙ e

  pub count_is : {n : ℕ} → q ≡ Ok n → Whole d n
  count_is {n} was = count_whole d n (sym (count_done was))
