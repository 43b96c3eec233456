-- A run of narrowing calls (document 01, "The dictionary and its list"), and what is told of it.
-- A call takes the list memory, the count n and a query, and gives its answer and the list memory after it.
use Rattle.std.specs.Prelude.{ℕ, ◌+◌, Bool, eqb}
use mathlib.Core.List.{List, [], ◌∷◌, foldr}
use Rattle.format.specs.Format.{choose}
use Rattle.token.specs.Result.{Result, refusal, done}
use Rattle.narrowing.specs.Narrowing.{Narrowed}

-- the list memory after a run, the count for the next call, and what each call answered
pub record Ended : Type 0 where
  pub list : List ℕ
  pub count : ℕ
  pub answers : List Narrowed

-- the n of the next call: the k of this one if it was accepted
unfoldable pub next_count : ℕ → Narrowed → ℕ
next_count n answer = choose (eqb answer.number 0) answer.kept n

abbrev pub answering : Narrowed → Ended → Ended
answering answer r = record { list = r.list; count = r.count; answers = answer ∷ r.answers }

-- the calls with the queries in order, the first on this list memory and count
unfoldable pub run : {Q : Type 0} → (List ℕ → ℕ → Q → Narrowed × List ℕ) → List Q → List ℕ → ℕ → Ended
run call [] list n = record { list = list; count = n; answers = [] }
run call (q ∷ qs) list n =
    answering (call list n q).0 (run call qs (call list n q).1 (next_count n (call list n q).0))

-- the dropped counts, added up
unfoldable pub total : List Narrowed → ℕ
total answers = foldr (λ (answer : Narrowed) (n : ℕ). answer.dropped + n) 0 answers

-- the number and place of a refusal, zeros where there is none
unfoldable pub refusal_of : Result (ℕ → Bool) → ℕ × ℕ
refusal_of (refusal number place) = (number, place)
refusal_of (done test) = (0, 0)

-- each query with the number and place that its call answered
unfoldable pub told : {Q : Type 0} → List Q → List Narrowed → List (Q × (ℕ × ℕ))
told [] answers = []
told (q ∷ qs) [] = []
told (q ∷ qs) (answer ∷ answers) = (q, (answer.number, answer.place)) ∷ told qs answers
