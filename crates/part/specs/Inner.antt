-- What the inner functions of reading a part of a sign promise.
use Rattle.std.specs.Prelude.{Result as Answer, Ok, Err, Option, None, Some, ◌≡◌, ℕ, ◌+◌, ◌*◌, ◌<◌, ◌≤◌, List, length, take, drop, nat_le, slice_index, slice_index_or}
use Rattle.format.specs.Format.{Format, choose}
use Rattle.format.specs.Located.{locate, on_found}
use Rattle.charset.specs.declared.Charset.{Charset}
use Rattle.charset.specs.Bytes.{digit_of}
use Rattle.charset.specs.Tokens.{Tokens, tokens}
use Rattle.grammar.specs.Sign.{point}
use Rattle.token.specs.declared.refusal.Refusal.{Refusal}
use Rattle.part.specs.declared.reading.Placed.{Placed}
use Rattle.part.specs.Placed.{of_placed, told_placed}

-- READ WITH CARE

-- the coordinate that follows a value
unfoldable pub point_after : Charset → List ℕ → ℕ → ℕ → Answer Placed Refusal
point_after set s at v = told_placed (length s) (on_found (λ p. (v, p)) (locate (point (tokens set)) s at))

-- the same where a value was read
unfoldable pub point_then : Charset → List ℕ → ℕ → Answer ℕ Refusal → Answer Placed Refusal
point_then set s at (Ok v) = point_after set s at v
point_then set s at (Err e) = Err e

-- A QUICK LOOK: what it computes and finds. FSW: sums over digits, in which the first counts as its byte, 0x30 more than its
-- value, and a byte that is no hexadecimal digit counts 65536.

-- the value of a hexadecimal digit, and 65536 for any other byte
unfoldable pub digit_or : ℕ → ℕ
digit_or b = choose (nat_le 16 (digit_of b)) 65536 (digit_of b)

abbrev pub digit_in : List ℕ → ℕ → ℕ
digit_in s at = digit_or (slice_index s at)

abbrev pub base_in : List ℕ → ℕ → ℕ
base_in s at = slice_index s at * 256 + digit_in s (at + 1) * 16 + digit_in s (at + 2)

abbrev pub turn_in : List ℕ → ℕ → ℕ
turn_in s at = slice_index s at * 16 + digit_in s (at + 1)

-- the n bytes at an offset are those of a value
pub record Spelled (n : ℕ) {A : Type 0} (f : Format A) (s : List ℕ) (at : ℕ) (v : A) : Type 0 where
  pub valid : f.Valid v
  pub bytes : take n (drop at s) ≡ f.write v

-- what is found is there; finding nothing says nothing
pub record Sure (n : ℕ) {A : Type 0} (f : Format A) (s : List ℕ) (at : ℕ) (r : Option A) : Type 0 where
  pub is : (v : A) → r ≡ Some v → Spelled n f s at v

-- the parts of what is found
abbrev pub parts : Option Placed → Option (ℕ × (ℕ × ℕ))
parts None = None
parts (Some p) = Some (of_placed p)

-- the same of the coordinate after a value
pub record SureAfter (t : Tokens) (s : List ℕ) (at value : ℕ) (r : Option Placed) : Type 0 where
  pub is : (p : Placed) → r ≡ Some p → (p.value ≡ value) × Spelled (t.number_size + t.second_size) (point t) s at (p.x, p.y)

-- the value of a decimal digit; more than 9 says nothing
pub record SureDigit (b r : ℕ) : Type 0 where
  pub is : r ≤ 9 → b ≡ 48 + r

-- SWU: four bytes as one number, the first the lowest
pub record Word (s : List ℕ) (at r : ℕ) : Type 0 where
  pub is : r ≡ slice_index s at + slice_index s (at + 1) * 0x100 + slice_index s (at + 2) * 0x10000 + slice_index s (at + 3) * 0x1000000
  pub first : slice_index_or s at 0 < 256
  pub second : slice_index_or s (at + 1) 0 < 256
  pub third : slice_index_or s (at + 2) 0 < 256
  pub fourth : slice_index_or s (at + 3) 0 < 256
