-- What a call that is done, or refused, says of the tests and calls that it comes from.
use Prim.Native.Nat.{ℕ, ◌<◌}
use mathlib.Core.Path.{◌≡◌, refl}
use mathlib.Core.Bool.{Bool, true, false}
use native.Mathlib.Omega.{arith}
use lib.Dec.{lit<}
use Rattle.format.specs.Places.{Outcome, fine, refused, ends_short}
use Rattle.token.specs.Result.{Result, refusal, done, on_done, check, and_then, of_outcome}

pub refusal_done : {A B : Type 0} {a : A} (n p : ℕ) → refusal n p ≡ done a → B
refusal_done n p e = absurd (let z : ◌≡◌ {A = ℕ} 0 1 = cc in omega arith)

-- ONE TEST

pub check_done : {A : Type 0} {a : A} (test : Bool) (n p : ℕ) (r : Result A) → check test n p r ≡ done a → (test ≡ true) × (r ≡ done a)
check_done true n p r e = (refl, e)
check_done false n p r e = refusal_done n p e

-- ONE CALL AFTER ANOTHER

pub on_done_done : {A B : Type 0} {b : B} (to : A → B) (r : Result A) → on_done to r ≡ done b → (a : A) × ((r ≡ done a) × (to a ≡ b))
on_done_done to (refusal n p) e = refusal_done n p e
on_done_done to (done a) e = (a, (refl, cc))

pub and_then_done : {A B : Type 0} {b : B} (r : Result A) (next : A → Result B) → and_then r next ≡ done b → (a : A) × ((r ≡ done a) × (next a ≡ done b))
and_then_done (refusal n p) next e = refusal_done n p e
and_then_done (done a) next e = (a, (refl, e))

-- NO REFUSAL HAS THE NUMBER 0

abbrev pub Counted : {A : Type 0} → Result A → Type 0
Counted r = (n p : ℕ) → r ≡ refusal n p → 0 < n

pub done_counted : {A : Type 0} (a : A) → Counted (done a)
done_counted a n p e = absurd (let z : ◌≡◌ {A = ℕ} 0 1 = cc in omega arith)

pub refusal_counted : {A : Type 0} (k q : ℕ) → 0 < k → Counted {A = A} (refusal k q)
refusal_counted k q h n p e = let z : k ≡ n = cc in omega arith

pub check_counted : {A : Type 0} (test : Bool) (k q : ℕ) (r : Result A) → 0 < k → Counted r → Counted (check test k q r)
check_counted true k q r h c = c
check_counted false k q r h c = refusal_counted k q h

pub and_then_counted : {A B : Type 0} (r : Result A) (next : A → Result B) → Counted r → ((a : A) → Counted (next a)) → Counted (and_then r next)
and_then_counted (refusal k q) next c d n p e = c n p (cc)
and_then_counted (done a) next c d n p e = d a n p e

pub on_done_counted : {A B : Type 0} (to : A → B) (r : Result A) → Counted r → Counted (on_done to r)
on_done_counted to (refusal k q) c n p e = c n p (cc)
on_done_counted to (done a) c n p e = done_counted (to a) n p e

pub outcome_counted : {A : Type 0} (size : ℕ) (o : Outcome A) → Counted (of_outcome size o)
outcome_counted size (fine a) = done_counted a
outcome_counted size (refused i) = refusal_counted 1 i (lit< tt)
outcome_counted size ends_short = refusal_counted 2 size (lit< tt)
