-- Laws of tokens read part by part: a function that reads one only cites these.
use Prim.Native.Nat.{ℕ, ◌+◌, ◌≤◌}
use mathlib.Core.List.{List, [], ◌∷◌}
use mathlib.Core.Path.{◌≡◌, refl, sym, ap, ◌∙◌}
use mathlib.Core.Logic.{inl, inr}
use lib.ListN.{length}
use native.Mathlib.Omega.{arith}
use Rattle.format.specs.Format.{Format, sequence, mapped}
use Rattle.format.specs.Located.{Located, found, wrong_at, short_here, locate, and_then, on_found}
use Rattle.format.proofs.Delimited.{Delimited, Fixed}
use Rattle.format.proofs.At.{fixed_got, sequence_at, mapped_at}
use Rattle.std.specs.Prelude.{Result as Answer, Ok, Err}
use Rattle.std.specs.Result.{IsErrAnd}
use Rattle.token.specs.declared.refusal.Refusal.{Refusal}
use Rattle.token.specs.declared.refusal.Refusal.TheVariants.{TextWrong, TextShort}
use Rattle.token.specs.Token.{told, token_at}
use Rattle.token.proofs.Handed.{handed}

-- what is told is no value
abbrev pub Fails : Answer ℕ Refusal → Type 0
Fails r = (v : ℕ) → r ≡ Ok v → ⊥

pub value_fails : {X : Type 0} (v : ℕ) → Fails (Ok v) → X
value_fails v h = absurd (h v refl)

pub err_fails : (e : Refusal) → Fails (Err e)
err_fails e v h = absurd (cc h)

-- where `?` hands on the refusal of q, r is whatever q is told as
pub hands_on : (r q x : Answer ℕ Refusal) (e : Refusal) → IsErrAnd r (λ d. d ≡ e) → q ≡ Err e → (Fails q → q ≡ x) → r ≡ x
hands_on r q x e h was is = handed r e h ∙ sym was ∙ is (rw was (err_fails e))

-- Where a value is told it was found; what else is told was located.
pub record At (l : Located ℕ) (v : ℕ) : Type 0 where
  pub next : ℕ
  pub is : l ≡ found v next

pub told_value : (size : ℕ) (l : Located ℕ) (v : ℕ) → told size l ≡ Ok v → At l v
told_value size (found a i) v e = let x : a ≡ v = cc in record { next = i; is = ap (λ b. found b i) x }
told_value size (wrong_at p) v e = absurd (cc e)
told_value size short_here v e = absurd (cc e)

pub told_wrong : (size : ℕ) (l : Located ℕ) (p : ℕ) → told size l ≡ Err (TextWrong p) → l ≡ wrong_at p
told_wrong size (found a i) p e = absurd (cc e)
told_wrong size (wrong_at q) p e = let x : q ≡ p = cc in ap wrong_at x
told_wrong size short_here p e = absurd (cc e)

pub told_short : (size n : ℕ) (l : Located ℕ) → told size l ≡ Err (TextShort n) → l ≡ short_here
told_short size n (found a i) e = absurd (cc e)
told_short size n (wrong_at q) e = absurd (cc e)
told_short size n short_here e = refl

fails_on : (size : ℕ) (l : Located ℕ) (k : ℕ → ℕ → Located ℕ) → Fails (told size l) → told size l ≡ told size (and_then l k)
fails_on size (found a i) k h = value_fails a h
fails_on size (wrong_at p) k h = refl
fails_on size short_here k h = refl

fails_to : (size : ℕ) (l : Located ℕ) (to : ℕ → ℕ) → Fails (told size l) → told size l ≡ told size (on_found to l)
fails_to size (found a i) to h = value_fails a h
fails_to size (wrong_at p) to h = refl
fails_to size short_here to h = refl

-- What a function knows of a value that it was told.
pub record Told (n : ℕ) (f : Format ℕ) (s : List ℕ) (at v : ℕ) : Type 0 where
  pub is : locate f s at ≡ found v (at + n)
  pub valid : f.Valid v
  pub room : at + n ≤ length s

pub told_at : (w n : ℕ) (f : Format ℕ) → Fixed w n f → (s : List ℕ) (at v : ℕ) → token_at f s at ≡ Ok v → Told n f s at v
unfolding token_at
told_at w n f x s at v e =
    let l = told_value (length s) (locate f s at) v e in
    let g = fixed_got w n f x s at v l.next l.is in
    record { is = l.is ∙ ap (found v) g.0; valid = g.1.valid; room = rw g.0 at g.1.room }

-- two parts, as a function reads them: each law is for one of its returns
module _ (w n : ℕ) (f : Format ℕ) (g : ℕ → Format ℕ) (to : ℕ × ℕ → ℕ) (from : ℕ → ℕ × ℕ) (P : ℕ → Type 0) (x : Delimited w f) (s : List ℕ) (at : ℕ) where
  abbrev both : Format ℕ
  both = mapped (sequence f g) to from P

  goes_go : (l : Located ℕ) → on_found to (and_then l λ a i. on_found (λ b. (a, b)) (locate (g a) s i)) ≡ and_then l λ a i. on_found (λ b. to (a, b)) (locate (g a) s i)
  goes_go (found a i) = go (locate (g a) s i)
    where
      go : (m : Located ℕ) → on_found to (on_found (λ b. (a, b)) m) ≡ on_found (λ b. to (a, b)) m
      go (found b j) = refl
      go (wrong_at p) = refl
      go short_here = refl
  goes_go (wrong_at p) = refl
  goes_go short_here = refl

  both_at : locate both s at ≡ and_then (locate f s at) λ a i. on_found (λ b. to (a, b)) (locate (g a) s i)
  both_at = mapped_at (sequence f g) to from P s at ∙ ap (on_found to) (sequence_at w f g x s at) ∙ goes_go (locate f s at)

  pub first_fails : (r : Answer ℕ Refusal) → r ≡ token_at f s at → Fails r → r ≡ token_at both s at
  unfolding token_at
  first_fails r e h =
      e ∙ fails_on (length s) (locate f s at) (λ a i. on_found (λ b. to (a, b)) (locate (g a) s i)) (rw e at h) ∙ ap (told (length s)) (sym both_at)

  next_is : (a : ℕ) → Told n f s at a → locate both s at ≡ on_found (λ b. to (a, b)) (locate (g a) s (at + n))
  next_is a k = both_at ∙ ap (λ l. and_then l λ a i. on_found (λ b. to (a, b)) (locate (g a) s i)) k.is

  pub second_fails : (a : ℕ) (r : Answer ℕ Refusal) → Told n f s at a → r ≡ token_at (g a) s (at + n) → Fails r → r ≡ token_at both s at
  unfolding token_at
  second_fails a r k e h =
      e ∙ fails_to (length s) (locate (g a) s (at + n)) (λ b. to (a, b)) (rw e at h) ∙ ap (told (length s)) (sym (next_is a k))

  pub both_told : (a b : ℕ) → Told n f s at a → token_at (g a) s (at + n) ≡ Ok b → Ok (to (a, b)) ≡ token_at both s at
  unfolding token_at
  both_told a b k e =
      let l = told_value (length s) (locate (g a) s (at + n)) b e in
      ap (told (length s)) (sym (next_is a k ∙ ap (on_found (λ b. to (a, b))) l.is))

  -- where the value of the second part is that of the whole
  pub second_told : (a : ℕ) (r : Answer ℕ Refusal) → ((b : ℕ) → to (a, b) ≡ b) → Told n f s at a → r ≡ token_at (g a) s (at + n) → r ≡ token_at both s at
  unfolding token_at
  second_told a r same k e = e ∙ go (locate (g a) s (at + n)) ∙ ap (told (length s)) (sym (next_is a k))
    where
      go : (l : Located ℕ) → told (length s) l ≡ told (length s) (on_found (λ b. to (a, b)) l)
      go (found b i) = ap Ok (sym (same b))
      go (wrong_at p) = refl
      go short_here = refl
