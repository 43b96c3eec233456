-- What a format comes to at an offset of a text, as functions tell it and part by part.
use Prim.Native.Nat.{ℕ, ◌+◌}
use mathlib.Core.List.{List}
use mathlib.Core.Path.{◌≡◌, refl, sym, ap, ◌∙◌}
use native.Mathlib.Omega.{arith}
use lib.Dec.{lit<}
use lib.ListN.{length}
use Rattle.format.specs.Format.{Format}
use Rattle.format.specs.Places.{Outcome, fine, refused, ends_short}
use Rattle.format.specs.Located.{Located, found, wrong_at, short_here, locate, and_then as thenLocated, on_found}
use Rattle.format.proofs.Delimited.{Fixed}
use Rattle.format.proofs.At.{fixed_got}
use Rattle.token.specs.Refusal.{text_wrong, text_short}
use Rattle.token.specs.Result.{Result, refusal, done, outcome, on_done, and_then, of_outcome, of_located, result_at, value_at}
use Rattle.token.specs.Token.{told, token_at, TokenResult}
use Rattle.token.proofs.Checks.{refusal_done, done_counted, refusal_counted, Counted, on_done_done}

pub token_result_lem : TokenResult
unfolding token_at
token_result_lem f s at = go (locate f s at)
  where
    go : (l : Located ℕ) → outcome (told (length s) l) ≡ on_done (λ p. p.0) (of_located (length s) l)
    go (found v next) = refl
    go (wrong_at p) = refl
    go short_here = refl

pub on_done_refusal : {A B : Type 0} (to : A → B) (r : Result A) (n p : ℕ) → on_done to r ≡ refusal n p → r ≡ refusal n p
on_done_refusal to (refusal k q) n p e = cc
on_done_refusal to (done a) n p e = refusal_done n p (sym e)

pub same_done : {A : Type 0} {a b : A} → done a ≡ done b → a ≡ b
same_done e = cc

-- a value that is there was found
pub located_done : {A : Type 0} (size : ℕ) (l : Located A) (a : A) (next : ℕ) → of_located size l ≡ done (a, next) → l ≡ found a next
located_done size (found b i) a next e = let q = same_done e in λ j. found (q j).0 (q j).1
located_done size (wrong_at p) a next e = refusal_done text_wrong p e
located_done size short_here a next e = refusal_done text_short size e

pub outcome_done : {A : Type 0} (size : ℕ) (o : Outcome A) (a : A) → of_outcome size o ≡ done a → o ≡ fine a
outcome_done size (fine b) a e = ap fine (same_done e)
outcome_done size (refused p) a e = refusal_done text_wrong p e
outcome_done size ends_short a e = refusal_done text_short size e

pub value_there : {A : Type 0} (w n : ℕ) (f : Format A) → Fixed w n f → (s : List ℕ) (at : ℕ) (a : A) → value_at f s at ≡ done a → locate f s at ≡ found a (at + n)
value_there w n f x s at a e =
    let d = on_done_done (λ p. p.0) (result_at f s at) e in
    let l : locate f s at ≡ found a d.0.1 = located_done (length s) (locate f s at) a d.0.1 (d.1.0 ∙ λ i. done (d.1.1 i, d.0.1)) in
    l ∙ ap (found a) (fixed_got w n f x s at a d.0.1 l).0

-- what is wrong is wrong there: a text that ends is refused by another number
wrong_go : {A : Type 0} (size : ℕ) (l : Located A) (p : ℕ) → of_located size l ≡ refusal text_wrong p → l ≡ wrong_at p
wrong_go size (found a i) p e = refusal_done text_wrong p (sym e)
wrong_go size (wrong_at q) p e = let x : q ≡ p = cc in ap wrong_at x
wrong_go size short_here p e = absurd (let z : ◌≡◌ {A = ℕ} 2 1 = cc in omega arith)

pub value_wrong : {A : Type 0} (f : Format A) (s : List ℕ) (at p : ℕ) → value_at f s at ≡ refusal text_wrong p → locate f s at ≡ wrong_at p
value_wrong f s at p e = wrong_go (length s) (locate f s at) p (on_done_refusal (λ r. r.0) (result_at f s at) text_wrong p e)

-- the combinators
module _ {A B : Type 0} (size : ℕ) (to : A → B) where
  pub on_result : (l : Located A) → of_located size (on_found to l) ≡ on_done (λ p. (to p.0, p.1)) (of_located size l)
  on_result (found a i) = refl
  on_result (wrong_at p) = refl
  on_result short_here = refl

pub then_result : {A B : Type 0} (size : ℕ) (k : A → ℕ → Located B) (l : Located A)
    → of_located size (thenLocated l k) ≡ and_then (of_located size l) λ p. of_located size (k p.0 p.1)
then_result size k (found a i) = refl
then_result size k (wrong_at p) = refl
then_result size k short_here = refl
