-- Document 02, Q-5: where the place of 1 would fall on the second or third byte of a coordinate number, it is the number's first.
use Rattle.std.specs.Prelude.{ℕ, ◌+◌, ◌-◌, ◌≡◌, List, [], ◌++◌, ◌⊎◌, ◌↔◌, take, drop}
use Rattle.format.specs.Format.{Format, All}
use Rattle.format.specs.Numeral.{Range}
use Rattle.format.specs.Places.{refused, ends_short, reading, Begins, FirstWrong, Unfinished}

-- Where numbers stand in the texts of a format is said by what is written before them: nothing; or a value of another format
-- and then what stands before a number after it.
abbrev pub Here : List ℕ → Type 0
Here x = x ≡ []

abbrev pub After : {A : Type 0} → Format A → (List ℕ → Type 0) → List ℕ → Type 0
After {A = A} f Before x = (a : A) × (y : List ℕ) × f.Valid a × (x ≡ f.write a ++ y) × Before y

-- q is the second or third byte of a number at p: a number may stand there, and from p to q the text has decimal digits
pub record InNumber (Before : List ℕ → Type 0) (text : List ℕ) (p q : ℕ) : Type 0 where
  pub next : (q ≡ p + 1) ⊎ (q ≡ p + 2)
  pub number : Before (take p text)
  pub digits : All (Range 48 57) (take (q - p) (drop p text))

-- the place of 1: the first wrong byte or, if that is in a number, the number's first byte
pub data Place {A : Type 0} (f : Format A) (Before : List ℕ → Type 0) (text : List ℕ) (p : ℕ) : Type 0 where
  stays : FirstWrong f text p → ((s : ℕ) → InNumber Before text s p → ⊥) → Place f Before text p
  moves : (q : ℕ) → FirstWrong f text q → InNumber Before text p q → Place f Before text p

-- THE LAW OF PLACES, byte by byte, for a format whose numbers stand where Before says: each of them may stand there
pub record ByNumbers {A : Type 0} (number : Format ℕ) (f : Format A) (Before : List ℕ → Type 0) : Type 0 where
  pub stands : (x : List ℕ) → Before x → (n : ℕ) → number.Valid n → Begins f (x ++ number.write n)
  pub wrong : (text : List ℕ) (p : ℕ) → (reading 1 f text ≡ refused p) ↔ Place f Before text p
  pub short : (text : List ℕ) → (reading 1 f text ≡ ends_short) ↔ Unfinished f text
