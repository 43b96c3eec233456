-- Document 01, "A query", and document 02, Q-9: how a query is written, once for every edition, and what it means.
use Rattle.std.specs.Prelude.{ℕ, ◌+◌, ◌*◌, ◌≤◌, List, [], ◌∷◌, map, Bool, true, false, ◌⊎◌}
use Prim.Native.Char.{code}
use Rattle.std.proofs.Common.{inl, inr}
use Rattle.std.proofs.Math.Option.{Option, none, some}
use Rattle.format.specs.Format.{Format, All, Any, sequence, either, optional, many}
use Rattle.format.specs.Numeral.{Range}
use Rattle.charset.specs.Bytes.{byte, digit, after}
use Rattle.charset.specs.Tokens.{last_punctuation}
use Rattle.grammar.specs.Sign.{Number}
use Rattle.querygrammar.specs.Spelling.{Item, key_item, range_item, null_item, nothing, Spelling}

-- HOW A QUERY IS WRITTEN

-- alternatives: one item and, where the spelling joins items, further ones, each after an o
abbrev pub others : {A : Type 0} → Bool → Format A → Format (List A)
others false f = nothing []
others true f = many (after (code "o") f)

abbrev pub list : {A : Type 0} → Bool → Format A → Format (A × List A)
list joins f = sequence f λ a. others joins f

-- V and one to three decimal digits
abbrev pub later_figures : Format (ℕ × Option ℕ)
later_figures = sequence (digit 0 9) λ b. optional (digit 0 9)

abbrev pub Figures : Type 0
Figures = ℕ × Option (ℕ × Option ℕ)

abbrev pub figures : Format Figures
figures = sequence (digit 0 9) λ a. optional later_figures

abbrev pub variance : Format (Option Figures)
variance = optional (after (code "V") figures)

-- what the parts of a query say, over what an item says; digits are kept as they are written
abbrev pub ListText : Type 0 → Type 0
ListText A = A × List A

abbrev pub SoughtText : Type 0 → Type 0
SoughtText A = ListText A × Option (ℕ × ℕ)

abbrev pub HeadText : Type 0 → Type 0
HeadText A = ℕ ⊎ ((ListText A × List (ListText A)) × ℕ)

abbrev pub TailText : Type 0 → Type 0
TailText A = List (SoughtText A) × Option Figures

abbrev pub QueryText : Type 0 → Type 0
QueryText A = Option (HeadText A) × TailText A

module _ (s : Spelling) where
  abbrev pub coordinate : Format (ℕ × ℕ)
  coordinate = sequence s.number λ x. s.second

  -- an item of the signbox may carry a coordinate, for all its alternatives; one of the prefix may not
  abbrev pub prefix_list : Format (ListText s.Says)
  prefix_list = list s.joins s.prefix_item

  abbrev pub bare_list : Format (ListText s.Says)
  bare_list = list s.joins s.signbox_item

  abbrev pub signbox_list : Format (SoughtText s.Says)
  signbox_list = sequence bare_list λ l. optional coordinate

  -- after the Q: nothing, or T, or A, one or more items, T
  abbrev pub some_lists : Format (ListText s.Says × List (ListText s.Says))
  some_lists = sequence prefix_list λ l. many prefix_list

  abbrev pub prefix_lists : Format ((ListText s.Says × List (ListText s.Says)) × ℕ)
  prefix_lists = sequence some_lists λ l. byte (code "T")

  abbrev pub head : Format (HeadText s.Says)
  head = either (byte (code "T")) (after (code "A") prefix_lists)

  -- signbox items, and the variance
  abbrev pub tail : Format (TailText s.Says)
  tail = sequence (many signbox_list) λ l. variance

  abbrev pub after_q : Format (QueryText s.Says)
  after_q = sequence (optional head) λ h. tail

  -- THE QUERY
  abbrev pub query : Format (QueryText s.Says)
  query = after (code "Q") after_q

-- WHAT A QUERY MEANS

-- what condition 0 asks of the prefix: nothing, that there is one, or with which symbols it begins, each by its alternatives
pub data Prefix : Type 0 where
  free : Prefix
  present : Prefix
  begins : List (List Item) → Prefix

pub record Sought : Type 0 where
  pub alternatives : List Item
  pub coordinate : Option (ℕ × ℕ)

-- there is no limit to the items and their alternatives here, and a range may be reversed
pub record Query : Type 0 where
  pub prefix : Prefix
  pub items : List Sought
  pub variance : ℕ

-- 20 if unsaid
abbrev pub variance_of : Option Figures → ℕ
variance_of none = 20
variance_of (some (a, none)) = a
variance_of (some (a, some (b, none))) = a * 10 + b
variance_of (some (a, some (b, some c))) = (a * 10 + b) * 10 + c

module _ {A : Type 0} (means : A → Item) where
  abbrev pub alternatives_of : ListText A → List Item
  alternatives_of l = means l.0 ∷ map means l.1

  abbrev pub sought_of : SoughtText A → Sought
  sought_of p = record { alternatives = alternatives_of p.0; coordinate = p.1 }

  abbrev pub prefix_of : Option (HeadText A) → Prefix
  prefix_of none = free
  prefix_of (some (inl t)) = present
  prefix_of (some (inr p)) = begins (alternatives_of p.0.0 ∷ map alternatives_of p.0.1)

  abbrev pub meaning : QueryText A → Query
  meaning t = record { prefix = prefix_of t.0; items = map sought_of t.1.0; variance = variance_of t.1.1 }

-- the items that a prefix condition asks for, and its kind as a number: none, T alone, or items
abbrev pub lists_of : Prefix → List (List Item)
lists_of free = []
lists_of present = []
lists_of (begins lists) = lists

abbrev pub kind_of : Prefix → ℕ
kind_of free = 0
kind_of present = 1
kind_of (begins lists) = 2

-- the alternatives of each signbox item
abbrev pub sought_lists : Query → List (List Item)
sought_lists q = map (λ s. s.alternatives) q.items

-- what holds of every query that is read
abbrev pub Base : ℕ → Type 0
Base = Range 0x100 last_punctuation

abbrev pub ValidItem : Item → Type 0
ValidItem (key_item base fill rotation) = Base base × (Any (λ f. f ≤ 5) fill × Any (λ r. r ≤ 15) rotation)
ValidItem (range_item from to) = Base from × Base to
ValidItem null_item = Unit

abbrev pub ValidSought : Sought → Type 0
ValidSought s = All ValidItem s.alternatives × Any (λ p. Number p.0 × Number p.1) s.coordinate

pub record ValidQuery (q : Query) : Type 0 where
  pub prefix : All (All ValidItem) (lists_of q.prefix)
  pub items : All ValidSought q.items
