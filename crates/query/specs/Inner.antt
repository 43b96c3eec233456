-- What the inner functions of reading a query promise: what they answer, and what they put into the lent words.
use Rattle.std.specs.Prelude.{Result as Answer, Ok, Err, Option as Optional, Some, None, ⊤, ℕ, zero, suc, ◌+◌, ◌≤◌, ◌≡◌, List, [], ◌∷◌, map, Bool, true, false, not, ◌||◌, leb, length}
use Rattle.std.proofs.Common.{inl, inr}
use Rattle.std.proofs.Math.Option.{Option, none, some}
use Rattle.std.proofs.lemmas.List.Edits.{sets}
use Rattle.format.specs.Format.{optional, every}
use Rattle.format.specs.Places.{fine}
use Rattle.format.specs.Located.{found, locate, on_found, ended}
use Rattle.std.specs.Option.{option_or}
use Rattle.token.specs.declared.refusal.Refusal.{Refusal}
use Rattle.token.specs.Refusal.{prefix_long, signbox_long, alternatives_long, range_reversed, number_of, place_of}
use Rattle.token.specs.Result.{Result, refusal, done, outcome, on_done, check, and_then, of_outcome}
use Rattle.token.specs.Padded.{padded, zeros}
use Rattle.querygrammar.specs.declared.Edition.{Edition}
use Rattle.querygrammar.specs.Spelling.{spelling}
use Rattle.querygrammar.specs.Query.{Query, HeadText, TailText, kind_of, prefix_lists, head, tail, after_q, query, prefix_of, lists_of, variance_of}
use Rattle.querygrammar.specs.QueryLaws.{read_query}
use Rattle.queryitem.specs.Words.{spare, rows_words, bare, words_of}
use Rattle.querypart.specs.declared.items.Count.{Count}
use Rattle.querypart.specs.Spots.{all_spots}
use Rattle.querypart.specs.Inner.{first_of, item, few, all_few, all_words}
use Rattle.query.specs.declared.words.Asked.{Asked}
use Rattle.query.specs.declared.words.Asked.TheVariants.{Free, Present, Begins}
use Rattle.query.specs.Reading.{head_spots, query_of}

-- what is answered beside the words
abbrev pub passed : Result Query → Result ⊤
passed r = on_done (λ q. tt) r

-- words as they are lent: zeros, with room for an item
abbrev pub Blank : List ℕ → Type 0
Blank words = (31 ≤ length words) × (words ≡ zeros (length words))

-- THE LIMITS AND THE ORDER

abbrev pub ordered : Optional ℕ → Result ⊤
ordered None = done tt
ordered (Some at) = refusal range_reversed at

abbrev pub limits : ℕ → ℕ → Bool → Optional ℕ → Result ⊤
limits before count crowded reversed =
    check (leb before 32) prefix_long 0 (check (leb count 32) signbox_long 0 (check (not crowded) alternatives_long 0 (ordered reversed)))

-- the words o became p: the first four are put where nothing is refused
pub record LimitedInto (kind before count variance : ℕ) (crowded : Bool) (reversed : Optional ℕ) (o : List ℕ) (r : Answer ⊤ Refusal) (p : List ℕ) : Type 0 where
  pub is : outcome r ≡ limits before count crowded reversed
  pub holds : limits before count crowded reversed ≡ done tt → p ≡ sets o 0 (kind ∷ before ∷ count ∷ variance ∷ [])

-- the word of what is asked of the prefix
abbrev pub word_of : Asked → ℕ
word_of Free = 0
word_of Present = 1
word_of Begins = 2

-- no items, before an offset
abbrev pub no_items : ℕ → Count
no_items next = record { next = next; count = 0; reversed = None; crowded = false; row = 4 }

module _ (e : Edition) where
  abbrev pub Says : Type 0
  Says = (spelling e).Says

  -- THE SIGNBOX ITEMS AND THE VARIANCE, after a prefix condition of a kind with items that were counted as c

  -- whether the whole is within the limits, by what the tail says
  abbrev pub tail_limits : Count → TailText (spelling e).Says → Result ⊤
  tail_limits c t =
      limits c.count (length t.0) (c.crowded || not (all_few (item e true) t.0)) (option_or c.reversed (first_of (all_spots (item e true).format (item e true).spots c.next t.0)))

  pub record TailIn (s : List ℕ) (kind : ℕ) (c : Count) (o : List ℕ) (r : Answer ⊤ Refusal) (p : List ℕ) : Type 0 where
    pub is : outcome r ≡ and_then (of_outcome (length s) (ended 1 (length s) (locate (tail (spelling e)) s c.next))) (tail_limits c)
    pub holds : (t : TailText (spelling e).Says) → ended 1 (length s) (locate (tail (spelling e)) s c.next) ≡ fine t → tail_limits c t ≡ done tt
        → c.row + length (all_words (item e true) t.0) + spare ≤ length o
        → p ≡ sets (sets o c.row (all_words (item e true) t.0)) 0 (kind ∷ c.count ∷ length t.0 ∷ variance_of t.1 ∷ [])

  -- WHAT FOLLOWS THE Q

  -- a text that begins with Q, and what follows the Q
  pub record Asks (s : List ℕ) : Type 0 where
    pub is : locate (query (spelling e)) s 0 ≡ locate (after_q (spelling e)) s 1
    pub room : 1 ≤ length s

  abbrev pub Opened : ℕ → List ℕ → Type 0
  Opened zero s = locate (optional (head (spelling e))) s 1 ≡ found none 1
  Opened (suc zero) s = (t : ℕ) × (locate (optional (head (spelling e))) s 1 ≡ found (some (inl t)) 2) × (2 ≤ length s)
  Opened (suc (suc k)) s = (locate (optional (head (spelling e))) s 1 ≡ on_found some (on_found inr (locate (prefix_lists (spelling e)) s 2))) × (2 ≤ length s)

  pub record Prefixed (s : List ℕ) : Type 0 where
    pub asks : Asks s
    pub opened : Opened 2 s

  -- what asks for a prefix, before the tail, in n words
  pub record Leads (s : List ℕ) (h : Option (HeadText (spelling e).Says)) (kind n : ℕ) (c : Count) (o : List ℕ) : Type 0 where
    pub is : locate (optional (head (spelling e))) s 1 ≡ found h c.next
    pub kinds : kind ≡ kind_of (prefix_of (spelling e).means h)
    pub count : c.count ≡ length (lists_of (prefix_of (spelling e).means h))
    pub first : c.reversed ≡ first_of (head_spots (spelling e) h)
    pub crowd : c.crowded ≡ not (every few (lists_of (prefix_of (spelling e).means h)))
    pub held : every few (lists_of (prefix_of (spelling e).means h)) ≡ true
        → 4 + length (rows_words (map bare (lists_of (prefix_of (spelling e).means h)))) + spare ≤ n
        → (o ≡ sets (zeros n) 4 (rows_words (map bare (lists_of (prefix_of (spelling e).means h)))))
        × (c.row ≡ 4 + length (rows_words (map bare (lists_of (prefix_of (spelling e).means h)))))

  pub record PrefixIn (s : List ℕ) (kind n : ℕ) (r : Answer Count Refusal) (p : List ℕ) : Type 0 where
    pub failed : (d : Refusal) → r ≡ Err d → of_outcome (length s) (read_query e s) ≡ refusal (number_of d) (place_of d)
    pub leads : (c : Count) → r ≡ Ok c → (h : Option (HeadText (spelling e).Says)) × Leads s h kind n c p
    pub room : (c : Count) → r ≡ Ok c → c.next ≤ length s
    pub rows : (c : Count) → r ≡ Ok c → c.row ≤ n
    pub size : length p ≡ n

  -- the same, with what is asked
  pub record HeadIn (s : List ℕ) (n : ℕ) (r : Answer (Asked × Count) Refusal) (p : List ℕ) : Type 0 where
    pub failed : (d : Refusal) → r ≡ Err d → of_outcome (length s) (read_query e s) ≡ refusal (number_of d) (place_of d)
    pub leads : (asked : Asked) (c : Count) → r ≡ Ok (asked, c) → PrefixIn s (word_of asked) n (Ok c) p
    pub size : length p ≡ n

  -- THE QUERY

  -- its words lie in the n that were lent if there is room for them and 21 more
  pub record ReadInto (s : List ℕ) (n : ℕ) (r : Answer ⊤ Refusal) (words : List ℕ) : Type 0 where
    pub is : outcome r ≡ passed (query_of e s)
    pub holds : (q : Query) → query_of e s ≡ done q → length (words_of q) + spare ≤ n → words ≡ padded n (words_of q)
