-- What reading a query answers: first what the text says, then the limits, then the order of ranges, then the record
-- with its words (document 01, "A query" and "Refusal numbers"; document 02, Q-9).
use Rattle.std.specs.Prelude.{Result as Answer, Ok, Err, ℕ, ◌+◌, List, [], ◌∷◌, ◌++◌, ◌&&◌, leb, length}
use Rattle.std.proofs.Common.{inl, inr}
use Rattle.std.proofs.Math.Option.{Option, none, some}
use Rattle.format.specs.Format.{optional, every}
use Rattle.token.specs.declared.refusal.Refusal.{Refusal}
use Rattle.token.specs.Refusal.{prefix_long, signbox_long, alternatives_long, range_reversed, number_of, place_of}
use Rattle.token.specs.Result.{Result, refusal, done, check, and_then, of_outcome}
use Rattle.token.specs.Padded.{padded, zeros}
use Rattle.querygrammar.specs.declared.Edition.{Edition}
use Rattle.querygrammar.specs.Spelling.{Spelling, spelling}
use Rattle.querygrammar.specs.Query.{Query, ListText, HeadText, QueryText, prefix_list, signbox_list, head, meaning, lists_of, sought_lists}
use Rattle.querygrammar.specs.QueryLaws.{read_query}
use Rattle.queryitem.specs.Words.{word_count, words_of}
use Rattle.querypart.specs.Spots.{Spot, all_spots, list_spots, first_reversed}
use Rattle.querypart.specs.Inner.{few}

-- WHERE THE ITEMS STAND: those of the prefix after Q and A, those of the signbox after Q and what asks for a prefix

abbrev pub head_lists : {A : Type 0} → Option (HeadText A) → List (ListText A)
head_lists none = []
head_lists (some (inl t)) = []
head_lists (some (inr p)) = p.0.0 ∷ p.0.1

module _ (s : Spelling) where
  abbrev pub head_spots : Option (HeadText s.Says) → List Spot
  head_spots h = all_spots (prefix_list s) (list_spots s.prefix_item s.means) 2 (head_lists h)

  abbrev pub spots_of : QueryText s.Says → List Spot
  spots_of t =
      head_spots t.0
      ++ all_spots (signbox_list s) (λ at p. list_spots s.signbox_item s.means at p.0) (1 + length ((optional (head s)).write t.0)) t.1.0

-- THE REFUSALS

abbrev pub in_order_of : Option ℕ → Query → Result Query
in_order_of none q = done q
in_order_of (some at) q = refusal range_reversed at

-- at most 32 prefix items, 32 signbox items, and eight alternatives in each
abbrev pub limited : Query → Option ℕ → Result Query
limited q place =
    check (leb (length (lists_of q.prefix)) 32) prefix_long 0
    (check (leb (length q.items) 32) signbox_long 0
    (check (every few (lists_of q.prefix) && every few (sought_lists q)) alternatives_long 0
    (in_order_of place q)))

unfoldable pub query_of : Edition → List ℕ → Result Query
query_of e text =
    and_then (of_outcome (length text) (read_query e text)) λ t. limited (meaning (spelling e).means t) (first_reversed (spots_of (spelling e) t))

-- a query as it is asked: its edition, with the character set of the second, and its bytes
abbrev pub Asked : Type 0
Asked = Edition × List ℕ

abbrev pub query_asked : Asked → Result Query
query_asked a = query_of a.0 a.1

-- THE RECORD: a reading as numbers, with zeros for words where it is refused

pub record Reading : Type 0 where
  pub number : ℕ
  pub place : ℕ
  pub words : List ℕ

unfoldable pub reading_of : Result Query → Reading
reading_of (refusal number place) = record { number = number; place = place; words = zeros word_count }
reading_of (done q) = record { number = 0; place = 0; words = padded word_count (words_of q) }

-- and by the function that makes it
abbrev pub as_reading : Answer (List ℕ) Refusal → Reading
as_reading (Ok words) = record { number = 0; place = 0; words = words }
as_reading (Err e) = record { number = number_of e; place = place_of e; words = zeros word_count }
