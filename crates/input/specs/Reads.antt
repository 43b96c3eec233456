-- How far an input was read, and what is written of a report's answer to it.
use Rattle.std.specs.Prelude.{Result, Option, Ok, Err, IfSome, ℕ, ◌≡◌, List, take, replicate}
use Rattle.std.specs.Borrow.{Bor, MutBor}
use Rattle.std.specs.Io.KnownBytes.{Appends, Keeps}
use Rattle.input.specs.declared.CutShort.{CutShort}
use Rattle.input.specs.declared.Untold.{Untold}
use Rattle.input.specs.declared.Untold.TheVariants.{Unread, Unwritten}

-- how many bytes were read, also where a read failed
abbrev pub bytes_read : Result ℕ CutShort → ℕ
bytes_read (Ok n) = n
bytes_read (Err cut) = cut.read

-- a text is the first of the bytes, where those are known: as many as there is room for
abbrev pub IsFirst : Option (List ℕ) → ℕ → List ℕ → Type 0
IsFirst known room text = IfSome known (λ xs. text ≡ take room xs)

-- what may come of a report's call: the text and the memory that it is lent, its answer, and that memory afterwards
abbrev pub Calls : Type 1
Calls = Bor (List ℕ) → MutBor (List ℕ) → ℕ → MutBor (List ℕ) → Type 0

-- a report was called on the first 50,178 bytes of an input, and on a memory of zeros
pub record Asked (calls : Calls) (input : Option (List ℕ)) : Type 0 where
  pub text : Bor (List ℕ)
  pub out : MutBor (List ℕ)
  pub n : ℕ
  pub after : MutBor (List ℕ)
  pub called : calls text out n after
  pub first : IsFirst input 50178 text.now
  pub zeros : out.now ≡ replicate 12320 0

-- what answering an input does to a writer's bytes: what the report says to be filled is written, and nothing where reading failed
abbrev pub Answers : Calls → (input old new : Option (List ℕ)) → Result Unit Untold → Type 0
Answers calls input old new (Ok _) = (asked : Asked calls input) × Appends old new (take asked.n asked.after.now)
Answers calls input old new (Err Unread) = Keeps old new
Answers calls input old new (Err Unwritten) = Asked calls input
