-- A number in digits, each of which is limited to what can still become a number of the range.
use Rattle.std.specs.Prelude.{ℕ, ◌+◌, ◌-◌, ◌*◌, ◌/◌, ◌%◌, ◌≤◌, min, List, [], ◌∷◌}
use Rattle.format.specs.Format.{Format, sequence, mapped}

abbrev pub Range : ℕ → ℕ → ℕ → Type 0
Range lo hi n = (lo ≤ n) × (n ≤ hi)

-- The first digit is read by `first` and the others by `later`; all but the last have the weights given.
abbrev pub numeral : (first later : ℕ → ℕ → Format ℕ) → List ℕ → ℕ → ℕ → Format ℕ
numeral first later [] lo hi = first lo hi
numeral first later (p ∷ ps) lo hi =
    mapped (sequence (first (lo / p) (hi / p)) λ d. numeral later later ps (lo - d * p) (min (p - 1) (hi - d * p)))
    (λ q. q.0 * p + q.1) (λ n. (n / p, n % p)) (Range lo hi)

-- weights for numbers up to hi, whose first digit is at most a and whose others are at most b
abbrev pub Weights : ℕ → ℕ → ℕ → List ℕ → Type 0
Weights a b hi [] = hi ≤ a
Weights a b hi (p ∷ ps) = (1 ≤ p) × (hi / p ≤ a) × Weights b b (p - 1) ps
