-- The units that both character sets are made of: bytes, digits, markers, and characters of four bytes.
use Rattle.std.specs.Prelude.{ℕ, ◌+◌, ◌-◌, ◌*◌, ◌/◌, ◌%◌, List, [], ◌∷◌, ltb, eqb}
use Prim.Native.Char.{code}
use Prim.Native.String.{String, [] as none, ◌∷◌ as ◌then◌}
use Rattle.format.specs.Format.{Format, choose, unit, sequence, mapped}
use Rattle.format.specs.Numeral.{Range, numeral}

-- the bytes of an ASCII text
abbrev pub ascii : String → List ℕ
ascii none = []
ascii (c then s) = code c ∷ ascii s

-- a number that one byte stands for
abbrev pub byte_of : (ℕ → ℕ) → List ℕ → ℕ
byte_of of [] = 0
byte_of of (b ∷ text) = of b

-- one byte; that of a letter is written by its ASCII `code`, as `byte (code "T")`
abbrev pub byte : ℕ → Format ℕ
byte b = unit 1 (byte_of λ a. a) (λ a. a ∷ []) b b

-- a fixed byte and then a format
abbrev pub after : {A : Type 0} → ℕ → Format A → Format A
after b f = mapped (sequence (byte b) λ a. f) (λ p. p.1) (λ v. (b, v)) f.Valid

-- the value of a hexadecimal digit, lower case only, and 16 for any other byte: 0 to 9 are bytes 48 to 57, a to f 97 to 102
unfoldable pub digit_of : ℕ → ℕ
digit_of b =
    choose (ltb b 48) 16
    (choose (ltb b 58) (b - 48)
    (choose (ltb b 97) 16
    (choose (ltb b 103) (b - 87) 16)))

abbrev pub digit_byte : ℕ → ℕ
digit_byte d = choose (ltb d 10) (48 + d) (87 + d)

-- one digit of lo to hi
abbrev pub digit : ℕ → ℕ → Format ℕ
digit lo hi = unit 1 (byte_of digit_of) (λ d. digit_byte d ∷ []) lo hi

-- a number of lo to hi in digits, of which all but the last have the weights given
abbrev pub digits : List ℕ → ℕ → ℕ → Format ℕ
digits = numeral digit digit

-- the markers A, B, L, M, R are 0 to 4, and any other byte is 5
unfoldable pub marker_of : ℕ → ℕ
marker_of b =
    choose (eqb b (code "A")) 0
    (choose (eqb b (code "B")) 1
    (choose (eqb b (code "L")) 2
    (choose (eqb b (code "M")) 3
    (choose (eqb b (code "R")) 4 5))))

abbrev pub marker_byte : ℕ → ℕ
marker_byte m = choose (eqb m 0) (code "A") (choose (eqb m 1) (code "B") (choose (eqb m 2) (code "L") (choose (eqb m 3) (code "M") (code "R"))))

-- one marker of lo to hi
abbrev pub letter : ℕ → ℕ → Format ℕ
letter lo hi = unit 1 (byte_of marker_of) (λ m. marker_byte m ∷ []) lo hi

-- the code point of four bytes of UTF-8 (RFC 3629, section 3); what bytes say that are not well-formed lies outside every
-- range that is asked for
unfoldable pub scalar_of : List ℕ → ℕ
scalar_of [] = 0
scalar_of (a ∷ []) = 0
scalar_of (a ∷ b ∷ []) = 0
scalar_of (a ∷ b ∷ c ∷ []) = 0
scalar_of (a ∷ b ∷ c ∷ d ∷ text) =
    choose (eqb (a / 8) 30)
    (choose (eqb (b / 64) 2)
    (choose (eqb (c / 64) 2)
    (choose (eqb (d / 64) 2)
    (a % 8 * 262144 + b % 64 * 4096 + c % 64 * 64 + d % 64) 0) 0) 0) 0

abbrev pub utf8 : ℕ → List ℕ
utf8 c = (240 + c / 262144) ∷ (128 + c / 4096 % 64) ∷ (128 + c / 64 % 64) ∷ (128 + c % 64) ∷ []

-- one character, as its distance lo to hi from a code point
abbrev pub character : ℕ → ℕ → ℕ → Format ℕ
character from lo hi = mapped (unit 4 scalar_of utf8 (from + lo) (from + hi)) (λ c. c - from) (λ n. from + n) (Range lo hi)
