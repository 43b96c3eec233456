-- The bytes of a character after its first, as digits of 64.
use Rattle.std.specs.Prelude.{ℕ, List}
use Rattle.format.specs.Format.{Format}
use Rattle.format.specs.Numeral.{numeral}
use Rattle.querygrammar.specs.Scalar.{shifted}

abbrev pub trail : ℕ → ℕ → Format ℕ
trail = shifted 0x80 63

abbrev pub trails : List ℕ → ℕ → ℕ → Format ℕ
trails = numeral trail trail
