-- The reading by value, and what is known of a reading by its number.
use Prim.Native.Nat.{ℕ, ◌+◌, ◌*◌, ◌≤◌}
use mathlib.Core.List.{List}
use mathlib.Core.Path.{◌≡◌, sym, ap, ◌∙◌}
use mathlib.Core.Option.{Option, none, some}
use lib.Dec.{lit<}
use lib.ListN.{length}
use native.Mathlib.Omega.{arith}
use Rattle.std.specs.Prelude.{Result as Answer, Ok, Err, ⊤}
use Rattle.token.specs.declared.refusal.Refusal.{Refusal}
use Rattle.token.specs.Refusal.{number_of, place_of, prefix_long, signbox_long, alternatives_long, range_reversed}
use Rattle.token.specs.Result.{refusal, done, outcome, of_outcome}
use Rattle.token.proofs.Checks.{Counted, done_counted, refusal_counted, and_then_counted, outcome_counted, on_done_done}
use Rattle.token.proofs.Results.{on_done_refusal}
use Rattle.token.specs.Padded.{padded}
use Rattle.querygrammar.specs.declared.Edition.{Edition}
use Rattle.querygrammar.specs.Spelling.{spelling}
use Rattle.querygrammar.specs.Query.{Query, meaning}
use Rattle.querygrammar.specs.QueryLaws.{read_query}
use Rattle.queryitem.specs.Words.{spare, word_count, words_of}
use Rattle.queryitem.proofs.TextSizes.{text_size}
use Rattle.querypart.specs.Spots.{first_reversed}
use Rattle.query.specs.Reading.{spots_of, in_order_of, limited, query_of, reading_of, as_reading}
use Rattle.query.specs.Inner.{passed, ReadInto}
use Rattle.query.proofs.Limits.{limited_case}
use Rattle.query.proofs.Accepted.{query_read, query_accepted}

-- no refusal has the number 0
order_counted : (o : Option ℕ) (q : Query) → Counted (in_order_of o q)
order_counted none q = done_counted q
order_counted (some at) q = refusal_counted range_reversed at (lit< tt)

limited_counted : (q : Query) (o : Option ℕ) → Counted (limited q o)
limited_counted q o =
    limited_case q o Counted (refusal_counted prefix_long 0 (lit< tt)) (refusal_counted signbox_long 0 (lit< tt)) (refusal_counted alternatives_long 0 (lit< tt)) (order_counted o q)

pub query_counted : (e : Edition) (s : List ℕ) → Counted (query_of e s)
unfolding query_of
query_counted e s =
    and_then_counted (of_outcome (length s) (read_query e s)) _ (outcome_counted (length s) (read_query e s))
    (λ t. limited_counted (meaning (spelling e).means t) (first_reversed (spots_of (spelling e) t)))

-- ROOM: of every query in an array of word_count, and of a short text's query in a short one

-- n words in which every query of a text has room, and 21 more
abbrev pub Fits : Edition → List ℕ → ℕ → Type 0
Fits e s n = (q : Query) → query_of e s ≡ done q → length (words_of q) + spare ≤ n

pub all_fit : (e : Edition) (s : List ℕ) → Fits e s word_count
all_fit e s q z = (query_accepted e s q z).room

pub short_fit : (e : Edition) (s : List ℕ) (n : ℕ) → 8 + 3 * length s + 2 * spare ≤ 2 * n → Fits e s n
short_fit e s n h q z = let k = query_read e s q z in rw (← k.same) (omega (arith, h, text_size e s k.says k.is))

-- a query that was refused, whatever room there was
pub read_failed : (e : Edition) (s : List ℕ) (r : Answer ⊤ Refusal) → outcome r ≡ passed (query_of e s) → (d : Refusal) → r ≡ Err d
    → query_of e s ≡ refusal (number_of d) (place_of d)
read_failed e s r is d was = on_done_refusal (λ q. tt) (query_of e s) _ _ (sym is ∙ ap outcome was)

module _ (e : Edition) (s : List ℕ) (n : ℕ) (r : Answer ⊤ Refusal) (words : List ℕ) (v : ReadInto e s n r words) where
  pub record Read : Type 0 where
    pub query : Query
    pub is : query_of e s ≡ done query
    pub holds : words ≡ padded n (words_of query)

  pub read_done : Fits e s n → (u : ⊤) → r ≡ Ok u → Read
  read_done fits u was =
      let d = on_done_done (λ q. tt) (query_of e s) (sym v.is ∙ ap outcome was) in
      record { query = d.0; is = d.1.0; holds = v.holds d.0 d.1.0 (fits d.0 d.1.0) }

-- the reading by value
module _ (e : Edition) (s : List ℕ) (r : Answer ⊤ Refusal) (words : List ℕ) (v : ReadInto e s word_count r words) where
  pub reading_refused : (d : Refusal) → r ≡ Err d → as_reading (Err d) ≡ reading_of (query_of e s)
  unfolding reading_of
  reading_refused d z = sym (ap reading_of (read_failed e s r v.is d z))

  pub reading_done : (u : ⊤) → r ≡ Ok u → record { number = 0; place = 0; words = words } ≡ reading_of (query_of e s)
  unfolding reading_of
  reading_done u z = let k = read_done e s word_count r words v (all_fit e s) u z in (λ i. record { number = 0; place = 0; words = k.holds i }) ∙ sym (ap reading_of k.is)
