-- When a call is refused with a number, exactly: along its tests, and along the text that it reads before them.
use Prim.Native.Nat.{ℕ, ◌<◌}
use mathlib.Core.Path.{◌≡◌, refl, sym}
use mathlib.Core.Bool.{Bool, true, false, true≢false, false≢true}
use mathlib.Core.Logic.Iff
use mathlib.Core.Logic.{◌↔◌}
use native.Mathlib.Omega.{arith}
use Rattle.format.specs.Places.{Outcome, fine, refused, ends_short}
use Rattle.token.specs.Refusal.{text_wrong, text_short}
use Rattle.token.specs.Result.{Result, refusal, done, check, and_then, of_outcome}
use Rattle.token.proofs.Checks.{refusal_done}

-- no refusal has this number
abbrev pub Never : {A : Type 0} → ℕ → Result A → Type 0
Never k r = (q : ℕ) → r ≡ refusal k q → ⊥

pub done_never : {A : Type 0} (k : ℕ) (a : A) → Never k (done a)
done_never k a q e = refusal_done k q (sym e)

pub refusal_never : {A : Type 0} (n k p : ℕ) → (n ≡ k → ⊥) → Never {A = A} k (refusal n p)
refusal_never n k p h q e = h (cc)

pub check_never : {A : Type 0} (test : Bool) (n k p : ℕ) (r : Result A) → (n ≡ k → ⊥) → Never k r → Never k (check test n p r)
check_never true n k p r h c = c
check_never false n k p r h c = refusal_never n k p h

-- a test that gives another number was passed
pub check_passed : {A : Type 0} (test : Bool) (n k p q : ℕ) (r : Result A) → (n ≡ k → ⊥)
    → (check test n p r ≡ refusal k q) ↔ ((test ≡ true) × (r ≡ refusal k q))
check_passed true n k p q r h = (λ e. (refl, e), λ e. e.1)
check_passed false n k p q r h = (λ e. absurd (refusal_never n k p h q e), λ e. absurd (let z : ◌≡◌ {A = ℕ} 0 1 = cc e.0 in omega arith))

-- and the test that gives the number was not
pub check_stopped : {A : Type 0} (test : Bool) (n p q : ℕ) (r : Result A) → Never n r
    → (check test n p r ≡ refusal n q) ↔ ((test ≡ false) × (q ≡ p))
check_stopped true n p q r c = (λ e. absurd (c q e), λ e. absurd (let z : ◌≡◌ {A = ℕ} 0 1 = cc e.0 in omega arith))
check_stopped false n p q r c = (λ e. (refl, cc), λ e. rw e.1)

-- one or the other
pub check_case : {A : Type 0} (P : Result A → Type 0) (test : Bool) (n p : ℕ) (r : Result A) → P (refusal n p) → P r → P (check test n p r)
check_case P true n p r a b = b
check_case P false n p r a b = a

-- A TEST OF SOMETHING

test_failed : {P : Type 0} (test : Bool) → (test ≡ true) ↔ P → (test ≡ false) ↔ (P → ⊥)
test_failed true k = (λ e. absurd (true≢false e), λ n. absurd (n (k.0 refl)))
test_failed false k = (λ e p. false≢true (k.1 p), λ n. refl)

module _ {A P : Type 0} (test : Bool) (tells : (test ≡ true) ↔ P) where
  pub stops : (n p q : ℕ) (r : Result A) → Never n r → (check test n p r ≡ refusal n q) ↔ ((P → ⊥) × (q ≡ p))
  stops n p q r c = Iff.trans (check_stopped test n p q r c) (Iff.and (test_failed test tells) Iff.rfl)

  pub passes : (n k p q : ℕ) (r : Result A) {Q : Type 0} → (n ≡ k → ⊥) → (r ≡ refusal k q) ↔ Q → (check test n p r ≡ refusal k q) ↔ (P × Q)
  passes n k p q r h next = Iff.trans (check_passed test n k p q r h) (Iff.and tells next)

-- A TEXT, and the tests of what it says, none of which gives 1 or 2

module _ {A B : Type 0} (size : ℕ) (o : Outcome A) (tests : A → Result B) where
  pub text_wrong_lem : ((a : A) → Never text_wrong (tests a)) → (p : ℕ) → (and_then (of_outcome size o) tests ≡ refusal text_wrong p) ↔ (o ≡ refused p)
  text_wrong_lem c p = go o
    where
      go : (o : Outcome A) → (and_then (of_outcome size o) tests ≡ refusal text_wrong p) ↔ (o ≡ refused p)
      go (fine a) = (λ e. absurd (c a p e), λ e. absurd (let z : ◌≡◌ {A = ℕ} 0 1 = cc in omega arith))
      go (refused q) = (λ e. (let z : q ≡ p = cc in rw z), λ e. (let z : q ≡ p = cc in rw z))
      go ends_short = (λ e. absurd (let z : ◌≡◌ {A = ℕ} 2 1 = cc in omega arith), λ e. absurd (let z : ◌≡◌ {A = ℕ} 0 1 = cc in omega arith))

  pub text_short_lem : ((a : A) → Never text_short (tests a)) → (p : ℕ) → (and_then (of_outcome size o) tests ≡ refusal text_short p) ↔ ((o ≡ ends_short) × (p ≡ size))
  text_short_lem c p = go o
    where
      go : (o : Outcome A) → (and_then (of_outcome size o) tests ≡ refusal text_short p) ↔ ((o ≡ ends_short) × (p ≡ size))
      go (fine a) = (λ e. absurd (c a p e), λ e. absurd (let z : ◌≡◌ {A = ℕ} 0 1 = cc e.0 in omega arith))
      go (refused q) = (λ e. absurd (let z : ◌≡◌ {A = ℕ} 1 2 = cc in omega arith), λ e. absurd (let z : ◌≡◌ {A = ℕ} 0 1 = cc e.0 in omega arith))
      go ends_short = (λ e. (refl, cc), λ e. rw e.1)

  text_passed : (k q : ℕ) → (text_wrong ≡ k → ⊥) → (text_short ≡ k → ⊥) → (and_then (of_outcome size o) tests ≡ refusal k q) ↔ ((a : A) × ((o ≡ fine a) × (tests a ≡ refusal k q)))
  text_passed k q h₁ h₂ = go o
    where
      go : (o : Outcome A) → (and_then (of_outcome size o) tests ≡ refusal k q) ↔ ((a : A) × ((o ≡ fine a) × (tests a ≡ refusal k q)))
      go (fine a) = (λ e. (a, (refl, e)), λ e. (let z : e.0 ≡ a = cc e.1.0 in rw z at e.1.1))
      go (refused p) = (λ e. absurd (h₁ cc), λ e. absurd (let z : ◌≡◌ {A = ℕ} 0 1 = cc e.1.0 in omega arith))
      go ends_short = (λ e. absurd (h₂ cc), λ e. absurd (let z : ◌≡◌ {A = ℕ} 0 1 = cc e.1.0 in omega arith))

  -- refused after the text was read: it says something that the tests refuse so
  pub said_exactly : (Said Exceeds : A → Type 0) (k q : ℕ) → text_short < k → ((a : A) → (o ≡ fine a) ↔ Said a) → ((a : A) → Said a → (tests a ≡ refusal k q) ↔ Exceeds a)
      → (and_then (of_outcome size o) tests ≡ refusal k q) ↔ ((a : A) × (Said a × Exceeds a))
  said_exactly Said Exceeds k q h f g =
      let t = text_passed k q (λ e. omega arith) (λ e. omega arith) in (
        λ e.
            let x = t.0 e in
            let s = (f x.0).0 x.1.0 in
            (x.0, (s, (g x.0 s).0 x.1.1)),
        λ x. t.1 (x.0, ((f x.0).1 x.1.0, (g x.0 x.1.0).1 x.1.1)),
      )
