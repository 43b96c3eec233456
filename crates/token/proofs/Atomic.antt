-- A token that is told at its first byte where it is wrong.
use Prim.Native.Nat.{ℕ}
use mathlib.Core.List.{List, [], ◌∷◌}
use mathlib.Core.Path.{◌≡◌, refl, sym, ◌∙◌}
use lib.ListN.{length, drop}
use native.Mathlib.Omega.{arith}
use Rattle.format.specs.Format.{Answer, value, other, wrong, short, Format, at_start, atomic}
use Rattle.format.specs.Located.{located, locate}
use Rattle.std.specs.Prelude.{Result, Ok, Err}
use Rattle.token.specs.declared.refusal.Refusal.{Refusal}
use Rattle.token.specs.declared.refusal.Refusal.TheVariants.{TextWrong}
use Rattle.token.specs.Token.{told, token_at}

module _ (f : Format ℕ) (s : List ℕ) (at : ℕ) where
  right_go : (a : Answer ℕ) → ((p : ℕ) → told (length s) (located (length s) at a) ≡ Err (TextWrong p) → ⊥) → told (length s) (located (length s) at a) ≡ told (length s) (located (length s) at (at_start a))
  right_go (value v rest) n = refl
  right_go other n = refl
  right_go (wrong rest) n = absurd (n _ refl)
  right_go short n = refl

  -- a value, or that the text ends, is told as it is
  pub atomic_right : (r : Result ℕ Refusal) → r ≡ token_at f s at → ((p : ℕ) → r ≡ Err (TextWrong p) → ⊥) → r ≡ token_at (atomic f) s at
  unfolding token_at locate
  atomic_right r e h = e ∙ right_go (f.read (drop at s)) λ p z. h p (e ∙ z)

  wrong_go : (p : ℕ) (a : Answer ℕ) → told (length s) (located (length s) at a) ≡ Err (TextWrong p) → Err (TextWrong at) ≡ told (length s) (located (length s) at (at_start a))
  wrong_go p (value v rest) e = absurd (cc e)
  wrong_go p other e = refl
  wrong_go p (wrong rest) e = refl
  wrong_go p short e = absurd (cc e)

  pub atomic_wrong : (p : ℕ) (r : Result ℕ Refusal) → r ≡ token_at f s at → r ≡ Err (TextWrong p) → Err (TextWrong at) ≡ token_at (atomic f) s at
  unfolding token_at locate
  atomic_wrong p r e v = wrong_go p (f.read (drop at s)) (sym e ∙ v)
