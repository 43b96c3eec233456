-- What reading a part of a styling string answers, and what it puts into lent memory.
use Rattle.std.specs.Prelude.{Result as Answer, Ok, Err, ℕ, ◌+◌, ◌≡◌, List, Bool, true, ◌&&◌, eqb, ltb, length, get_or}
use Rattle.std.proofs.Math.Option.{Option, none, some}
use Rattle.format.specs.Format.{Format, choose}
use Rattle.format.specs.Located.{Located, found, wrong_at, short_here, locate}
use Rattle.charset.specs.Bytes.{byte}
use Rattle.token.specs.declared.refusal.Refusal.{Refusal}
use Rattle.token.specs.declared.refusal.Refusal.TheVariants.{TextWrong, TextShort}
use Rattle.token.specs.Token.{token_at}
use Rattle.stylinggrammar.specs.Meaning.{if_any}
use Rattle.stylinggrammar.specs.Filling.{put_maybe}
use Rattle.stylingreader.specs.declared.part.Part.{Part}

-- what is asked of the values of a part: whether their zooms and their colour names are within the limits, what they come to, and
-- what they put into memory
pub record Taking (A : Type 0) : Type 0 where
  pub zooms : A → Bool
  pub names : A → Bool
  pub amount : A → ℕ
  pub put : A → List ℕ → List ℕ

-- what exceeds no limit and comes to nothing
abbrev pub plain : {A : Type 0} → (A → List ℕ → List ℕ) → Taking A
plain put = record { zooms = λ a. true; names = λ a. true; amount = λ a. 0; put = put }

-- a value was read, and the memory o became p
pub record Took {A : Type 0} (k : Taking A) (a : A) (next : ℕ) (r : Part) (o p : List ℕ) : Type 0 where
  pub place : r.place ≡ next
  pub zooms : r.zooms ≡ k.zooms a
  pub names : r.names ≡ k.names a
  pub amount : r.amount ≡ k.amount a
  pub holds : p ≡ k.put a o

-- what is located in a text of size bytes; where it fails, nothing is said of the memory
abbrev pub PartIs : {A : Type 0} → ℕ → Taking A → Located A → Answer Part Refusal → List ℕ → List ℕ → Type 0
PartIs size k (found a next) (Ok r) o p = Took k a next r o p
PartIs size k (found a next) (Err e) o p = ⊥
PartIs size k (wrong_at q) r o p = r ≡ Err (TextWrong q)
PartIs size k short_here r o p = r ≡ Err (TextShort size)

pub record PartIn {A : Type 0} (f : Format A) (k : Taking A) (s : List ℕ) (at : ℕ) (r : Answer Part Refusal) (o p : List ℕ) : Type 0 where
  pub is : PartIs (length s) k (locate f s at) r o p

-- TWO PARTS, and a part that may be absent

abbrev pub both : {A B : Type 0} → Taking A → (A → Taking B) → Taking (A × B)
both k j = record {
  zooms = λ p. k.zooms p.0 && (j p.0).zooms p.1;
  names = λ p. k.names p.0 && (j p.0).names p.1;
  amount = λ p. (j p.0).amount p.1;
  put = λ p o. (j p.0).put p.1 (k.put p.0 o);
}

abbrev pub amount_or : {A : Type 0} → ℕ → (A → ℕ) → Option A → ℕ
amount_or n amount none = n
amount_or n amount (some a) = amount a

abbrev pub perhaps : {A : Type 0} → Taking A → Taking (Option A)
perhaps k = record { zooms = if_any k.zooms; names = if_any k.names; amount = amount_or 0 k.amount; put = put_maybe k.put }

abbrev pub joined_part : Part → Part → Part
joined_part a b = record { zooms = a.zooms && b.zooms; place = b.place; names = a.names && b.names; amount = b.amount }

-- FIXED BYTES

unfoldable pub stands_at : List ℕ → ℕ → ℕ → Bool
stands_at s at b = ltb at (length s) && eqb (get_or s at 0) b

abbrev pub passed_part : ℕ → ℕ → Part
passed_part place amount = record { zooms = true; place = place; names = true; amount = amount }

-- where what has to stand is missing
unfoldable pub missing : List ℕ → ℕ → Refusal
missing s at = choose (ltb at (length s)) (TextWrong at) (TextShort (length s))

-- a part that has to end in a byte
abbrev pub closed_by : Part → Answer ℕ Refusal → Answer Part Refusal
closed_by a (Ok b) = Ok (record { zooms = a.zooms; place = a.place + 1; names = a.names; amount = a.amount })
closed_by a (Err e) = Err e

abbrev pub closed_part : List ℕ → Part → ℕ → Answer Part Refusal
closed_part s a b = closed_by a (token_at (byte b) s a.place)
