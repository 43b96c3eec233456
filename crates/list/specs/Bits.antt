-- A set of entries in bytes, one bit for each: entry e is bit e % 8 of byte e / 8.
use Rattle.std.specs.Prelude.{ℕ, ◌+◌, ◌/◌, ◌%◌, ◌^◌, ◌≤◌, ◌<◌, ◌≡◌, List, [], ◌∷◌, Bool, true, eqb, length, get_or, Option, Some, None}
use Rattle.format.specs.Format.{choose, keep}
use Rattle.narrowing.specs.Narrowing.{up_to, has}

abbrev pub byte_of : List ℕ → ℕ → ℕ
byte_of bits i = get_or bits i 0

abbrev pub bit_of : List ℕ → ℕ → Bool
bit_of bits e = eqb (byte_of bits (e / 8) / 2 ^ (e % 8) % 2) 1

-- no entry from e on
pub record EndsBefore (e : ℕ) (bits : List ℕ) : Type 0 where
  pub byte : byte_of bits (e / 8) < 2 ^ (e % 8)
  pub later : (i : ℕ) → e / 8 < i → byte_of bits i ≡ 0

-- of entries 1 to n those that pass the test, and none after
pub record Holds (test : ℕ → Bool) (n : ℕ) (bits : List ℕ) : Type 0 where
  pub has : (e : ℕ) → 0 < e → e ≤ n → bit_of bits e ≡ test e
  pub ends : EndsBefore (n + 1) bits

-- The lent set is as long as before, and if they rise its entries in 1 to count are these.
pub record Lists (rises : Bool) (count : ℕ) (entries before after : List ℕ) : Type 0 where
  pub long : length after ≡ length before
  pub has : rises ≡ true → keep (bit_of after) (up_to count) ≡ entries

-- there is a bit for each of 1 to count, and of these the set has the ones that stand in a list, in any order
pub record Marks (count : ℕ) (entries bits : List ℕ) : Type 0 where
  pub room : count / 8 < length bits
  pub is : (e : ℕ) → 0 < e → e ≤ count → bit_of bits e ≡ has e entries

-- The lent set is as long as before, and if none is twice its entries in 1 to count are these.
pub record ListsApart (apart : Bool) (count : ℕ) (entries before after : List ℕ) : Type 0 where
  pub long : length after ≡ length before
  pub marks : apart ≡ true → Marks count entries after

-- the first of a list that passes a test
unfoldable pub first_passing : (ℕ → Bool) → List ℕ → Option ℕ
first_passing test [] = None
first_passing test (e ∷ l) = choose (test e) (Some e) (first_passing test l)
