-- A table of where lines start: the starts of blocks of 32 lines, and how far after it each line of a block starts.
use Rattle.std.specs.Prelude.{ℕ, zero, suc, ◌+◌, ◌-◌, ◌*◌, ◌/◌, ◌≤◌, min, max, ◌≡◌, List, ltb, length, drop, get_or}
use Rattle.format.specs.Format.{choose}
use Rattle.lines.specs.Lines.{lines, first_line, line_start}

-- where the line after the one at a starts, or the end of the bytes
abbrev pub next_line : List ℕ → ℕ → ℕ
next_line dict a = min (length dict) (a + length (first_line (drop a dict)) + 1)

-- where the line starts that is k lines after the one at a
unfoldable pub lines_on : List ℕ → ℕ → ℕ → ℕ
lines_on dict zero a = a
lines_on dict (suc k) a = lines_on dict k (next_line dict a)

-- the first line of a block, and of the block of a line: block 0 starts with line 1
abbrev pub first_in : ℕ → ℕ
first_in block = max 1 (block * 32)

abbrev pub first_of : ℕ → ℕ
first_of e = first_in (e / 32)

-- an offset of 65,535 stands for any from there on: the line is found by a walk from the first line of its block
unfoldable pub start_from : List ℕ → ℕ → ℕ → ℕ → ℕ
start_from dict base offset e = choose (ltb offset 65535) (base + offset) (lines_on dict (e - first_of e) base)

abbrev pub start_in : List ℕ → List ℕ → List ℕ → ℕ → ℕ
start_in dict bases offsets e = start_from dict (get_or bases (e / 32) 0) (get_or offsets e 0) e

-- a table that holds zeros
pub record Clear (bases offsets : List ℕ) : Type 0 where
  pub blocks : length bases ≡ 2048
  pub places : length offsets ≡ 65536
  pub no_bases : (b : ℕ) → get_or bases b 0 ≡ 0
  pub no_offsets : (e : ℕ) → get_or offsets e 0 ≡ 0

-- any entry may be looked up, and what is found is in the dictionary or its end
pub record Safe (dict bases offsets : List ℕ) : Type 0 where
  pub blocks : length bases ≡ 2048
  pub places : length offsets ≡ 65536
  pub based : (b : ℕ) → get_or bases b 0 ≤ length dict
  pub within : (e : ℕ) → start_in dict bases offsets e ≤ length dict

-- every line is found
pub record Table (dict bases offsets : List ℕ) : Type 0 where
  pub safe : Safe dict bases offsets
  pub is : (e : ℕ) → 1 ≤ e → e ≤ length (lines dict) → start_in dict bases offsets e ≡ line_start dict e
