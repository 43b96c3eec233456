-- What makes the decimal form of a number the right one, for every number.
use Rattle.std.specs.Prelude.{ℕ, ◌+◌, ◌-◌, ◌*◌, ◌^◌, ◌≤◌, ◌<◌, ◌≡◌, List, [], ◌∷◌, length}
use Rattle.format.specs.Format.{All}
use Rattle.keylines.specs.Text.{decimal}

-- what digits say, after a number v
unfoldable pub value_after : ℕ → List ℕ → ℕ
value_after v [] = v
value_after v (b ∷ bytes) = value_after (v * 10 + (b - 48)) bytes

abbrev pub Digit : ℕ → Type 0
Digit b = (48 ≤ b) × (b ≤ 57)

pub record DecimalLaws : Type 0 where
  pub digits : (n : ℕ) → All Digit (decimal n)
  -- they say the number
  pub value : (n : ℕ) → value_after 0 (decimal n) ≡ n
  -- there is a digit, and what fits into k digits has no more
  pub some : (n : ℕ) → 0 < length (decimal n)
  pub shortest : (k n : ℕ) → 0 < k → n < 10 ^ k → length (decimal n) ≤ k
