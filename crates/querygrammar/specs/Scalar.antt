-- A character of four bytes that is read byte by byte, as queries in SWU are (document 02, Q-9).
use Rattle.std.specs.Prelude.{ℕ, suc, ◌+◌, ◌-◌, [], ◌∷◌, ltb}
use Rattle.format.specs.Format.{Format, choose, unit, mapped}
use Rattle.format.specs.Numeral.{Range, numeral}
use Rattle.charset.specs.Bytes.{byte_of}

-- a byte as a digit 0 to top, counted from the byte `from`; a byte before that is top + 1
abbrev pub distance : ℕ → ℕ → ℕ → ℕ
distance from top b = choose (ltb b from) (suc top) (b - from)

abbrev pub shifted : ℕ → ℕ → ℕ → ℕ → Format ℕ
shifted from top lo hi = unit 1 (byte_of (distance from top)) (λ d. (from + d) ∷ []) lo hi

-- a code point of lo to hi in the four bytes of UTF-8 (RFC 3629, section 3): 11110xxx, then three of 10xxxxxx
abbrev pub code_point : ℕ → ℕ → Format ℕ
code_point = numeral (shifted 0xf0 7) (shifted 0x80 63) (262144 ∷ 4096 ∷ 64 ∷ [])

-- one character, as its distance lo to hi from a code point
abbrev pub scalar : ℕ → ℕ → ℕ → Format ℕ
scalar from lo hi = mapped (code_point (from + lo) (from + hi)) (λ c. c - from) (λ n. from + n) (Range lo hi)
