-- What a function that reads an item, or a part of one, at an offset of a text answers, and what each answer comes to.
use Rattle.std.specs.Prelude.{Result as Answer, Ok, Err, Option as Optional, ℕ, ◌+◌, ◌≤◌, ◌≡◌, List, Bool, true, false, not, ◌⊎◌, length}
use Rattle.std.proofs.Common.{inl, inr}
use Rattle.std.proofs.Math.Option.{Option, none, some}
use Rattle.format.specs.Format.{Format, optional}
use Rattle.format.specs.Located.{Located, found, wrong_at, short_here, locate, on_found}
use Rattle.charset.specs.declared.Charset.TheVariants.{Fsw, Swu}
use Rattle.charset.specs.Bytes.{byte}
use Rattle.charset.specs.Tokens.{null}
use Rattle.token.specs.declared.refusal.Refusal.{Refusal}
use Rattle.token.specs.declared.refusal.Refusal.TheVariants.{TextWrong, TextShort}
use Rattle.token.specs.Token.{told, token_at}
use Rattle.token.specs.Result.{outcome, of_located}
use Rattle.querygrammar.specs.declared.Edition.{Edition}
use Rattle.querygrammar.specs.declared.Edition.TheVariants.{First, Second}
use Rattle.querygrammar.specs.Spelling.{KeyText, or_any, open_of, key_only, null_or_key, fsw_item, fsw_meaning, marks, swu_range, swu_item, swu_meaning, Spelling, spelling}
use Rattle.querygrammar.specs.Query.{coordinate}
use Rattle.queryitem.specs.declared.reading.Numbers.{Numbers}
use Rattle.queryitem.specs.Numbers.{optionally, numbers_of}

-- what is said of what is found and of the offset after it; the place where a text of size bytes is wrong, or that it is short
abbrev pub answered : {A B : Type 0} → (A → ℕ → B) → ℕ → Located A → Answer B Refusal
answered to size (found a next) = Ok (to a next)
answered to size (wrong_at p) = Err (TextWrong p)
answered to size short_here = Err (TextShort size)

abbrev pub told_piece : {A : Type 0} → ℕ → Located A → Answer (A × ℕ) Refusal
told_piece = answered (λ a next. (a, next))

-- a format at an offset, with the numbers that its value says
abbrev pub Piece : Type 0
Piece = Answer (Numbers × ℕ) Refusal

unfoldable pub piece_at : {A : Type 0} → Format A → (A → Numbers) → List ℕ → ℕ → Piece
piece_at f numbers s at = told_piece (length s) (on_found numbers (locate f s at))

-- FSW

-- a digit up to top, or u, which leaves it open
abbrev pub given : ℕ ⊎ ℕ → Optional ℕ
given v = optionally (open_of v)

unfoldable pub open_at : ℕ → List ℕ → ℕ → Answer (Optional ℕ) Refusal
open_at top s at = told (length s) (on_found given (locate (or_any top) s at))

-- a symbol after its S, and an item, with null among them or without
abbrev pub symbol : Bool → Format (ℕ ⊎ KeyText)
symbol true = null_or_key
symbol false = key_only

-- null where it may stand, otherwise wrong at once
abbrev pub null_at : Bool → List ℕ → ℕ → Answer ℕ Refusal
null_at true s at = token_at null s at
null_at false s at = Err (TextWrong at)

abbrev pub symbol_at : Bool → List ℕ → ℕ → Piece
symbol_at may s at = piece_at (symbol may) (λ v. numbers_of (fsw_meaning (inl v))) s at

abbrev pub fsw_at : Bool → List ℕ → ℕ → Piece
fsw_at may s at = piece_at (fsw_item (symbol may)) (λ a. numbers_of (fsw_meaning a)) s at

-- SWU

-- a mark that stands or not, and the offset after it
abbrev pub mark : ℕ → Bool → Option ℕ
mark b true = some b
mark b false = none

abbrev pub past : Bool → ℕ → ℕ
past true at = at + 1
past false at = at

pub record Marked (b : ℕ) (s : List ℕ) (at : ℕ) (r : Bool) : Type 0 where
  pub is : locate (optional (byte b)) s at ≡ found (mark b r) (past r at)
  pub room : past r at ≤ length s

unfoldable pub marked_numbers : ℕ → Bool → Bool → Numbers
marked_numbers code fills rotations = numbers_of (swu_meaning (inl (code, (mark 102 fills, mark 114 rotations))))

abbrev pub marks_at : ℕ → List ℕ → ℕ → Piece
marks_at code s at = piece_at (marks code) (λ m. numbers_of (swu_meaning (inl (code, m)))) s at

abbrev pub swu_range_at : List ℕ → ℕ → Piece
swu_range_at s at = piece_at swu_range (λ r. numbers_of (swu_meaning (inr r))) s at

abbrev pub swu_at : ℕ → List ℕ → ℕ → Piece
swu_at least s at = piece_at (swu_item least) (λ a. numbers_of (swu_meaning a)) s at

-- EVERY EDITION

-- an item of the signbox (true), or one of the prefix
abbrev pub item_of : (s : Spelling) → Bool → Format s.Says
item_of s true = s.signbox_item
item_of s false = s.prefix_item

-- whether an edition is in SWU, and whether null may be sought
abbrev pub in_swu : Edition → Bool
in_swu First = false
in_swu (Second Fsw) = false
in_swu (Second Swu) = true

abbrev pub has_null : Edition → Bool → Bool
has_null First boxed = false
has_null (Second set) boxed = not boxed

unfoldable pub item_at : Edition → Bool → List ℕ → ℕ → Piece
item_at e boxed s at = piece_at (item_of (spelling e) boxed) (λ a. numbers_of ((spelling e).means a)) s at

-- the bytes of the first number of a coordinate
abbrev pub number_size : Edition → ℕ
number_size First = 3
number_size (Second Fsw) = 3
number_size (Second Swu) = 4

-- a coordinate, or none, and the offset after it
unfoldable pub coordinate_at : Edition → List ℕ → ℕ → Answer (Optional (ℕ × ℕ) × ℕ) Refusal
coordinate_at e s at = told_piece (length s) (on_found optionally (locate (optional (coordinate (spelling e))) s at))

-- WHAT IT COMES TO (document 01, "Refusal numbers"): a value and the offset after it, 1 or 2; what is answered comes to what the format does

abbrev pub PieceResult : Type 0
PieceResult = (e : Edition) (boxed : Bool) (s : List ℕ) (at : ℕ)
    → outcome (item_at e boxed s at) ≡ of_located (length s) (on_found (λ a. numbers_of ((spelling e).means a)) (locate (item_of (spelling e) boxed) s at))

abbrev pub PlaceResult : Type 0
PlaceResult = (e : Edition) (s : List ℕ) (at : ℕ)
    → outcome (coordinate_at e s at) ≡ of_located (length s) (on_found optionally (locate (optional (coordinate (spelling e))) s at))
