-- What is proved of reading a query.
use Rattle.std.specs.Prelude.{ℕ, ◌+◌, ◌≤◌, ◌<◌, ◌≡◌, List, [], ◌∷◌, ◌++◌, map, false, ◌⊎◌, length, drop, get_or}
use Prim.Native.Char.{code}
use Rattle.format.specs.Format.{All}
use Rattle.format.specs.Places.{Formed, fine}
use Rattle.charset.specs.declared.Charset.TheVariants.{Fsw}
use Rattle.token.specs.Refusal.{range_reversed}
use Rattle.token.specs.Result.{refusal, done}
use Rattle.querygrammar.specs.declared.Edition.{Edition}
use Rattle.querygrammar.specs.declared.Edition.TheVariants.{First, Second}
use Rattle.querygrammar.specs.Spelling.{Item, range_item, null_item, Spelling, first, spelling}
use Rattle.querygrammar.specs.Query.{Query, query, meaning, lists_of, sought_lists, ValidQuery}
use Rattle.querygrammar.specs.QueryLaws.{Text, read_query}
use Rattle.queryitem.specs.Words.{spare, word_count, words_of}
use Rattle.querypart.specs.Spots.{Spot, reversed}
use Rattle.query.specs.Reading.{spots_of, query_of, reading_of}

-- the query that a text means
abbrev pub meant : (e : Edition) → Text e → Query
meant e = meaning (spelling e).means

-- THE LIMITS

-- P holds of the alternatives of each item, in the prefix and in the signbox
abbrev pub EachItem : (List Item → Type 0) → Query → Type 0
EachItem P q = All P (lists_of q.prefix) × All P (sought_lists q)

-- at most 32 prefix items; at most 32 signbox items; at most eight alternatives in each; no range whose end is below its start
abbrev pub PrefixFits : Query → Type 0
PrefixFits q = length (lists_of q.prefix) ≤ 32

abbrev pub SignboxFits : Query → Type 0
SignboxFits q = length q.items ≤ 32

abbrev pub AlternativesFit : Query → Type 0
AlternativesFit = EachItem (λ l. length l ≤ 8)

abbrev pub NoneReversed : Query → Type 0
NoneReversed = EachItem (All (λ item. reversed item ≡ false))

pub record InLimits (q : Query) : Type 0 where
  pub prefix_fits : PrefixFits q
  pub signbox_fits : SignboxFits q
  pub alternatives_fit : AlternativesFit q
  pub none_reversed : NoneReversed q

-- a query that was accepted: its items are valid and within the limits, so that its words have room
pub record Accepted (q : Query) : Type 0 where
  pub valid : ValidQuery q
  pub prefix_most : length (lists_of q.prefix) ≤ 32
  pub items_most : length q.items ≤ 32
  pub alternatives_most : All (λ l. length l ≤ 8) (lists_of q.prefix) × All (λ l. length l ≤ 8) (sought_lists q)
  pub limits : InLimits q
  pub room : length (words_of q) + spare ≤ word_count

-- no item is null
abbrev pub Other : Item → Type 0
Other item = item ≡ null_item → ⊥

abbrev pub NoNull : List (List Item) → Type 0
NoNull = All (All Other)

-- an item is written at an offset of a text, as one of the prefix or one of the signbox
pub record Stands (s : Spelling) (text : List ℕ) (spot : Spot) : Type 0 where
  pub says : s.Says
  pub means : s.means says ≡ spot.1
  pub rest : List ℕ
  pub is : (drop spot.0 text ≡ s.prefix_item.write says ++ rest) ⊎ (drop spot.0 text ≡ s.signbox_item.write says ++ rest)

-- At the place is an R: of the items in the order in which they are written, the first that is reversed stands there, a range whose
-- end is below its start.
pub record FirstReversed (e : Edition) (text : List ℕ) (t : Text e) (place : ℕ) : Type 0 where
  pub letter : get_or text place 0 ≡ code "R"
  pub from : ℕ
  pub to : ℕ
  pub below : to < from
  pub stands : Stands (spelling e) text (place, range_item from to)
  pub before : List Spot
  pub after : List Spot
  pub is : spots_of (spelling e) t ≡ before ++ (place, range_item from to) ∷ after
  pub in_order : All (λ spot. reversed spot.1 ≡ false) before

abbrev pub joined : {A : Type 0} → List (List A) → List A
joined [] = []
joined (l ∷ lists) = l ++ joined lists

pub record ReadingLaws (e : Edition) : Type 0 where
  -- where nothing is refused the place is 0 too
  pub done_place : (text : List ℕ) → (reading_of (query_of e text)).number ≡ 0 → (reading_of (query_of e text)).place ≡ 0
  -- no refusal has the number 0
  pub counted : (text : List ℕ) (number place : ℕ) → query_of e text ≡ refusal number place → number ≡ 0 → ⊥
  pub accepted : (text : List ℕ) (q : Query) → query_of e text ≡ done q → Accepted q
  -- and what is within the limits is accepted: a well-formed text is read as the query that it means
  pub accepts : (t : Text e) → (query (spelling e)).Valid t → InLimits (meant e t) → query_of e ((query (spelling e)).write t) ≡ done (meant e t)
  -- null is not sought in the signbox
  pub signbox_null : (text : List ℕ) (q : Query) → query_of e text ≡ done q → NoNull (sought_lists q)
  -- the spots of a text that is well-formed are all its items in order, and each is written at its offset
  pub items : (t : Text e) → map (λ spot. spot.1) (spots_of (spelling e) t)
      ≡ joined (lists_of (meaning (spelling e).means t).prefix) ++ joined (sought_lists (meaning (spelling e).means t))
  pub stand : (text : List ℕ) (t : Text e) → read_query e text ≡ fine t → All (Stands (spelling e) text) (spots_of (spelling e) t)
  -- the place of 5: the text is well-formed, and the first of its reversed ranges stands there
  pub reversed_at : (text : List ℕ) (place : ℕ) → query_of e text ≡ refusal range_reversed place
      → (t : Text e) × ((read_query e text ≡ fine t) × FirstReversed e text t place)

-- A text that is well-formed in the first edition is read in the second as FSW with the same refusal, or as the same query.
abbrev pub FirstInSecond : Type 0
FirstInSecond = (text : List ℕ) → Formed (query first) text → query_of First text ≡ query_of (Second Fsw) text

-- the first edition does not seek null in the prefix either
abbrev pub FirstWithoutNull : Type 0
FirstWithoutNull = (text : List ℕ) (q : Query) → query_of First text ≡ done q → NoNull (lists_of q.prefix)
