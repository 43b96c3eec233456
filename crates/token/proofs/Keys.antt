-- Laws of symbol keys, of null and of what follows a fixed byte: a function that reads one only cites these.
use Prim.Native.Nat.{ℕ, ◌+◌, ◌≤◌, ◌<◌}
use mathlib.Core.List.{List, [], ◌∷◌}
use mathlib.Core.Path.{◌≡◌, refl, sym, ap, ◌∙◌}
use mathlib.Core.Logic.{◌⊎◌, inl, inr}
use lib.ListN.{length}
use native.Mathlib.Omega.{arith}
use Rattle.format.specs.Format.{Format, sequence, mapped, either}
use Rattle.format.specs.Located.{Located, found, wrong_at, short_here, locate, on_found}
use Rattle.format.proofs.Delimited.{Delimited}
use Rattle.format.proofs.At.{mapped_at, either_second, either_first}
use Rattle.charset.specs.Bytes.{byte, after}
use Rattle.charset.specs.Tokens.{base, turn, of_either}
use Rattle.charset.proofs.Units.{byte_delimited}
use Rattle.charset.proofs.Keys.{base_delimited}
use Rattle.std.specs.Prelude.{Result as Answer, Ok, Err}
use Rattle.token.specs.declared.refusal.Refusal.{Refusal}
use Rattle.token.specs.declared.refusal.Refusal.TheVariants.{TextWrong}
use Rattle.token.specs.Token.{told, token_at}
use Rattle.token.proofs.Told.{Fails, Told, told_at, told_wrong, first_fails, second_fails, both_told, second_told}
use Rattle.token.proofs.Digits.{digits_told}

-- a base of lo to hi
pub base_told : (lo hi : ℕ) → lo ≤ hi → hi < 4096 → (s : List ℕ) (at b : ℕ) (r : Answer ℕ Refusal) → r ≡ token_at (base lo hi) s at → r ≡ Ok b → Told 3 (base lo hi) s at b
base_told lo hi o k s at b r e v =
    digits_told (256 ∷ 16 ∷ []) lo hi o (omega arith, omega arith, (omega arith, omega arith, omega arith)) s at b (sym e ∙ v)

-- fill and rotation up to top
pub turn_told : (top : ℕ) → top < 256 → (s : List ℕ) (at t : ℕ) (r : Answer ℕ Refusal) → r ≡ token_at (turn top) s at → r ≡ Ok t → Told 2 (turn top) s at t
turn_told top k s at t r e v =
    digits_told (16 ∷ []) 0 top (omega arith) (omega arith, omega arith, omega arith) s at t (sym e ∙ v)

-- the one and then the other
module _ (lo hi top : ℕ) (to : ℕ × ℕ → ℕ) (from : ℕ → ℕ × ℕ) (P : ℕ → Type 0) (o : lo ≤ hi) (k : hi < 4096) (s : List ℕ) (at : ℕ) where
  abbrev symbol : Format ℕ
  symbol = mapped (sequence (base lo hi) λ b. turn top) to from P

  pub base_fails : (r : Answer ℕ Refusal) → r ≡ token_at (base lo hi) s at → Fails r → r ≡ token_at symbol s at
  base_fails = first_fails 1 3 (base lo hi) (λ b. turn top) to from P (base_delimited lo hi o k) s at

  pub turn_fails : (b : ℕ) (r : Answer ℕ Refusal) → Told 3 (base lo hi) s at b → r ≡ token_at (turn top) s (at + 3) → Fails r → r ≡ token_at symbol s at
  turn_fails = second_fails 1 3 (base lo hi) (λ b. turn top) to from P (base_delimited lo hi o k) s at

  pub symbol_told : (b t : ℕ) (r : Answer ℕ Refusal) → Told 3 (base lo hi) s at b → r ≡ token_at (turn top) s (at + 3) → r ≡ Ok t → Ok (to (b, t)) ≡ token_at symbol s at
  symbol_told b t r h e v = both_told 1 3 (base lo hi) (λ b. turn top) to from P (base_delimited lo hi o k) s at b t h (sym e ∙ v)

-- the second of two formats is read where the first is wrong at once
module _ (f g : Format ℕ) (from : ℕ → ℕ ⊎ ℕ) (P : ℕ → Type 0) (d : Delimited 1 f) (s : List ℕ) (at : ℕ) where
  abbrev whole : Format ℕ
  whole = mapped (either f g) of_either from P

  whole_is : (side : ℕ → ℕ ⊎ ℕ) → ((v : ℕ) → of_either (side v) ≡ v) → (l : Located ℕ) → locate (either f g) s at ≡ on_found side l → told (length s) l ≡ token_at whole s at
  unfolding token_at
  whole_is side same l e = go l ∙ ap (told (length s)) (sym (mapped_at (either f g) of_either from P s at ∙ ap (on_found of_either) e))
    where
      go : (l : Located ℕ) → told (length s) l ≡ told (length s) (on_found of_either (on_found side l))
      go (found v i) = ap Ok (sym (same v))
      go (wrong_at p) = refl
      go short_here = refl

  pub either_this : (r : Answer ℕ Refusal) → r ≡ token_at f s at → (r ≡ Err (TextWrong at) → ⊥) → r ≡ token_at whole s at
  unfolding token_at
  either_this r e n = e ∙ whole_is inl (λ v. refl) (locate f s at) (either_first f g s at (λ z. n (e ∙ ap (told (length s)) z)))

  pub either_that : (q r : Answer ℕ Refusal) → q ≡ token_at f s at → q ≡ Err (TextWrong at) → r ≡ token_at g s at → r ≡ token_at whole s at
  unfolding token_at
  either_that q r e v h = h ∙ whole_is inr (λ v. refl) (locate g s at) (either_second f g s at d.firm (told_wrong (length s) (locate f s at) at (sym e ∙ v)))

-- a fixed byte, and then a format
module _ (b : ℕ) (f : Format ℕ) (s : List ℕ) (at : ℕ) where
  pub after_fails : (r : Answer ℕ Refusal) → r ≡ token_at (byte b) s at → Fails r → r ≡ token_at (after b f) s at
  after_fails = first_fails 1 1 (byte b) (λ a. f) (λ p. p.1) (λ v. (b, v)) f.Valid (byte_delimited b) s at

  pub after_told : (a : ℕ) (q r : Answer ℕ Refusal) → q ≡ token_at (byte b) s at → q ≡ Ok a → r ≡ token_at f s (at + 1) → r ≡ token_at (after b f) s at
  after_told a q r e v =
      second_told 1 1 (byte b) (λ a. f) (λ p. p.1) (λ v. (b, v)) f.Valid (byte_delimited b) s at a r (λ c. refl)
      (told_at 1 1 (byte b) (record { delimited = byte_delimited b; size = λ v ok. refl }) s at a (sym e ∙ v))
