-- Lines of bytes (document 01, "The dictionary and its list"): each is ended by one byte 10, which is no part of it.
use Rattle.std.specs.Prelude.{ℕ, ◌+◌, ◌-◌, List, [], ◌∷◌, ◌++◌, Bool, true, false, eqb, leb, length, take, get_or}
use Rattle.std.specs.Borrow.{Bor}
use Rattle.format.specs.Format.{choose}

-- a byte before lines: 10 ends an empty line, any other belongs to the first line if there is one
abbrev pub byte_before : Bool → ℕ → List (List ℕ) → List (List ℕ)
byte_before true b ls = [] ∷ ls
byte_before false b [] = []
byte_before false b (l ∷ ls) = (b ∷ l) ∷ ls

-- bytes after the last byte 10 are in no line
unfoldable pub lines : List ℕ → List (List ℕ)
lines [] = []
lines (b ∷ bytes) = byte_before (eqb b 10) b (lines bytes)

-- no bytes, or the last of them is 10
unfoldable pub ended : List ℕ → Bool
ended [] = true
ended (b ∷ bytes) = eqb (get_or (b ∷ bytes) (length bytes) 0) 10

-- at most 65,535 lines
abbrev pub is_few : ℕ → Bool
is_few n = leb n 65535

abbrev pub few_lines : List ℕ → Bool
few_lines bytes = is_few (length (lines bytes))

-- lines as bytes, each with its byte 10
unfoldable pub bytes_of : List (List ℕ) → List ℕ
bytes_of [] = []
bytes_of (l ∷ ls) = l ++ (10 ∷ bytes_of ls)

-- the bytes before the first byte 10, or all if there is none
unfoldable pub first_line : List ℕ → List ℕ
first_line [] = []
first_line (b ∷ bytes) = choose (eqb b 10) [] (b ∷ first_line bytes)

-- line k, counted from 1
unfoldable pub line_of : List ℕ → ℕ → List ℕ
line_of bytes k = get_or (lines bytes) (k - 1) []

-- the offset of line k: the length of the lines before it, each with its byte 10
unfoldable pub line_start : List ℕ → ℕ → ℕ
line_start bytes k = length (bytes_of (take (k - 1) (lines bytes)))

-- where the part of a slice lies that starts at an offset: the slice's block of memory, and the offset in it
abbrev pub place_in : Bor (List ℕ) → ℕ → ℕ × ℕ
place_in s offset = (s.ref_ptr.0, offset + s.ref_ptr.1)
