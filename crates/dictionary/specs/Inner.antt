-- What narrowing by the conditions of a query promises, and what it asks of a form of narrowing.
use Rattle.std.specs.Prelude.{ℕ, ◌≤◌, ◌<◌, ◌≡◌, List, Bool, true, length, take}
use Rattle.format.specs.Format.{All, keep}
use Rattle.charset.specs.declared.Charset.{Charset}
use Rattle.token.specs.declared.refusal.Refusal.{Refusal}
use Rattle.token.specs.Refusal.{line_wrong, number_of, place_of}
use Rattle.token.specs.Result.{done}
use Rattle.query.specs.Reading.{Asked}
use Rattle.lines.specs.Lines.{lines as lines_of}
use Rattle.lines.specs.Checked.{line_count}
use Rattle.narrowing.specs.Narrowing.{Narrowed, up_to, listed as isListed, first_bad, narrowed_by}
use Rattle.list.specs.Bits.{bit_of, Marks}
use Rattle.entries.specs.Entries.{readable, first_wrong}
use Rattle.entries.specs.Judging.{meets_words}
use Rattle.dictionary.specs.Narrowing.{test_of}

-- `valid` tests a list over the line count
unfoldable pub narrowed_words : (ℕ → List ℕ → Bool) → Charset → List ℕ → List ℕ → ℕ → List ℕ → Narrowed × List ℕ
narrowed_words valid set dict list n words = narrowed_by (done (meets_words set dict words)) (line_count dict) valid (readable set dict) list n

-- and with a query as text
unfoldable pub narrowed_text : (ℕ → List ℕ → Bool) → Charset → List ℕ → List ℕ → ℕ → Asked → Narrowed × List ℕ
narrowed_text valid set dict list n query = narrowed_by (test_of set dict query) (line_count dict) valid (readable set dict) list n

-- THE SET OF A LIST that passes: its entries of 1 to count are those of the list, which rises
pub record Rises (count : ℕ) (entries bits : List ℕ) : Type 0 where
  pub has : keep (bit_of bits) (up_to count) ≡ entries

-- or those that stand in it, in any order
pub record Apart (count : ℕ) (entries bits : List ℕ) : Type 0 where
  pub marks : Marks count entries bits

-- A form of narrowing: what its test and the set of a list that passes tell.
pub record Taken (valid : ℕ → List ℕ → Bool) (lists : ℕ → List ℕ → List ℕ → Type 0) : Type 0 where
  -- its entries are in 1 to the line count
  pub within : (count : ℕ) (entries : List ℕ) → valid count entries ≡ true → All (λ e. (0 < e) × (e ≤ count)) entries
  -- the set has them
  pub marked : (count : ℕ) (entries bits : List ℕ) → valid count entries ≡ true → lists count entries bits → All (λ e. bit_of bits e ≡ true) entries
  -- where no line of the set is bad, none of the list is
  pub good : (count : ℕ) (entries bits : List ℕ) → valid count entries ≡ true → lists count entries bits → (reads : ℕ → Bool)
      → first_bad reads (keep (bit_of bits) (up_to count)) ≡ 0 → first_bad reads entries ≡ 0

-- the refusal of the first of the entries whose line is no sign
pub record IsWrong (set : Charset) (dict entries : List ℕ) (e : Refusal) : Type 0 where
  pub number : number_of e ≡ line_wrong
  pub place : place_of e ≡ first_wrong set dict entries
  pub some : first_wrong set dict entries ≡ 0 → ⊥

-- A list passed, and the walk in line order over its entries was refused.
pub record Met (valid : ℕ → List ℕ → Bool) (lists : ℕ → List ℕ → List ℕ → Type 0) (set : Charset) (dict : List ℕ) (lines : ℕ) (list : List ℕ) (n : ℕ) (listed : List ℕ) (met : Refusal) : Type 0 where
  pub counted : lines ≡ length (lines_of dict)
  pub few : lines ≤ 65535
  pub passes : isListed (valid lines) list n ≡ true
  pub holds : lists lines (take n list) listed
  pub wrong : IsWrong set dict (keep (bit_of listed) (up_to lines)) met
