-- What the inner functions promise, as the code goes about it.
use Rattle.std.specs.Prelude.{Result as Answer, Ok, Err, ℕ, Bool, zero, suc, List, [], ◌∷◌, ℤ}
use Rattle.format.specs.Format.{choose, All, every}
use Rattle.format.specs.Numeral.{Range}
use Rattle.charset.specs.Tokens.{last_code, last_writing, last_location}
use Rattle.grammar.specs.Sign.{Meaning}
use Rattle.token.specs.declared.refusal.Refusal.{Refusal}
use Rattle.token.specs.declared.refusal.Refusal.TheVariants.{NumberOutside}
use Rattle.writer.specs.Arrays.{upto, at}
use Rattle.moving.specs.declared.writing.Moved.{Moved}
use Rattle.moving.specs.Moves.{stays, moved_number}

-- a value, where the test holds, and else the refusal of a number outside 250 to 749
abbrev pub or_outside : {A : Type 0} → Bool → A → Answer A Refusal
or_outside test a = choose test (Ok a) (Err NumberOutside)

abbrev pub number_or_outside : ℤ → ℕ → Answer ℕ Refusal
number_or_outside by n = or_outside (stays by n) (moved_number by n)

-- f of each of the first n, and the rest as they were
unfoldable pub map_first : (ℕ → ℕ) → ℕ → List ℕ → List ℕ
map_first f zero l = l
map_first f (suc n) [] = []
map_first f (suc n) (a ∷ l) = f a ∷ map_first f n l

-- the maximum and the first n numbers of an axis
abbrev pub moved_axis : ℤ → ℕ → ℕ → List ℕ → Answer Moved Refusal
moved_axis by most n values =
    or_outside (every (stays by) (most ∷ upto (at values) n)) (record { most = moved_number by most; values = map_first (moved_number by) n values })

-- a sign that is valid but for its numbers
pub record Coded (m : Meaning) : Type 0 where
  pub prefix : All (Range 0 (last_code last_location)) m.prefix
  pub marker : Range 1 4 m.marker
  pub codes : All (λ s. Range 1 (last_code last_writing) s.code) m.symbols
