-- Numbers in digits of any kind.
use Rattle.std.specs.Prelude.{ℕ, List, [], ◌∷◌}
use Rattle.format.specs.Format.{Format, unit}
use Rattle.format.specs.Numeral.{numeral}
use Rattle.charset.specs.Bytes.{byte_of}

-- one digit of lo to hi: the number that a byte stands for, and the byte of a number
abbrev pub one_digit : (ℕ → ℕ) → (ℕ → ℕ) → ℕ → ℕ → Format ℕ
one_digit value byte lo hi = unit 1 (byte_of value) (λ d. byte d ∷ []) lo hi

-- a number of lo to hi in digits, of which all but the last have the weights given
abbrev pub number_in : (ℕ → ℕ) → (ℕ → ℕ) → List ℕ → ℕ → ℕ → Format ℕ
number_in value byte = numeral (one_digit value byte) (one_digit value byte)
