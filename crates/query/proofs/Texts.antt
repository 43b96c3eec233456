-- From the parts of a query to what reading its text answers: one law for each return.
use Prim.Native.Nat.{ℕ, ◌+◌, ◌≤◌}
use mathlib.Core.List.{List, [], ◌∷◌, ◌++◌, map}
use mathlib.Core.Path.{◌≡◌, refl, sym, ap, ◌∙◌}
use mathlib.Core.Bool.{Bool, true, false, not, ◌&&◌, ◌||◌}
use mathlib.Core.Option.{Option}
use lib.ListN.{length, length-map, length-append}
use lib.Seq.{sets}
use native.Mathlib.Omega.{arith}
use Rattle.format.specs.Format.{Format, optional, every}
use Rattle.format.specs.Places.{Outcome, fine, refused, ends_short}
use Rattle.format.specs.Located.{Located, locate, and_then, on_found, ended}
use Rattle.format.proofs.At.{got, sequence_at_got}
use Rattle.format.proofs.Ends.{on_fine, ended_on, reading_at}
use Rattle.std.specs.Prelude.{Result as Answer, Ok, Err, Option as Optional, ⊤}
use Rattle.std.specs.Option.{option_or}
use Rattle.token.specs.declared.refusal.Refusal.{Refusal}
use Rattle.token.specs.Refusal.{text_wrong, text_short, number_of, place_of}
use Rattle.token.specs.Result.{Result, refusal, done, outcome, of_outcome}
use Rattle.token.proofs.Checks.{refusal_done}
use Rattle.token.specs.Padded.{padded}
use Rattle.querygrammar.specs.declared.Edition.{Edition}
use Rattle.querygrammar.specs.Spelling.{Item, spelling}
use Rattle.querygrammar.specs.Query.{Query, ListText, SoughtText, HeadText, TailText, head, tail, query, alternatives_of, sought_of, lists_of, sought_lists}
use Rattle.querygrammar.specs.QueryLaws.{Text, read_query}
use Rattle.querygrammar.proofs.Items.{lawful}
use Rattle.querygrammar.proofs.Query.{optional_head_lawful, query_lawful}
use Rattle.queryitem.specs.Words.{spare, rows_words, bare, words_of}
use Rattle.querypart.specs.declared.items.Count.{Count}
use Rattle.querypart.specs.Spots.{Spot, all_spots, first_reversed}
use Rattle.querypart.specs.Inner.{first_of, item, few, all_few, all_words}
use Rattle.querypart.proofs.Spots.{first_both}
use Rattle.queryitem.proofs.Chains.{FailsAs}
use Rattle.query.specs.Reading.{head_spots, spots_of, limited, query_of}
use Rattle.query.specs.ReadingLaws.{meant}
use Rattle.query.specs.declared.words.Asked.{Asked}
use Rattle.query.specs.Inner.{word_of, passed, limits, tail_limits, TailIn, Asks, Leads, HeadIn, ReadInto}
use Rattle.query.proofs.Limits.{few_tells, limited_passed}
use Rattle.query.proofs.Putting.{query_put, limits_same}
use Rattle.query.proofs.Tails.{of_fails}

-- WHAT THE LOOPS COUNT IS WHAT THE QUERY MEANS

-- rows, and whether each has few alternatives
module _ (e : Edition) where
  abbrev of : (spelling e).Says → Item
  of = (spelling e).means

  pub prefix_words_lem : (l : List (ListText (spelling e).Says)) → all_words (item e false) l ≡ rows_words (map bare (map (alternatives_of of) l))
  prefix_words_lem [] = refl
  prefix_words_lem (a ∷ l) = ap (λ w. (item e false).words a ++ w) (prefix_words_lem l)

  pub prefix_few : (l : List (ListText (spelling e).Says)) → all_few (item e false) l ≡ every few (map (alternatives_of of) l)
  prefix_few [] = refl
  prefix_few (a ∷ l) = ap (λ t. few (alternatives_of of a) && t) (prefix_few l)

  signbox_words : (l : List (SoughtText (spelling e).Says)) → all_words (item e true) l ≡ rows_words (map (sought_of of) l)
  signbox_words [] = refl
  signbox_words (a ∷ l) = ap (λ w. (item e true).words a ++ w) (signbox_words l)

  signbox_few : (l : List (SoughtText (spelling e).Says)) → all_few (item e true) l ≡ every few (map (λ s. s.alternatives) (map (sought_of of) l))
  signbox_few [] = refl
  signbox_few (a ∷ l) = ap (λ t. few (alternatives_of of a.0) && t) (signbox_few l)

-- THE FIRST REVERSED RANGE OF ALL ITEMS

module _ (e : Edition) (h : Option (HeadText (spelling e).Says)) (t : TailText (spelling e).Says) where
  abbrev heads : List Spot
  heads = head_spots (spelling e) h

  abbrev tails : ℕ → List Spot
  tails i = all_spots (item e true).format (item e true).spots i t.0

  spots_first : (i : ℕ) (earlier : Optional ℕ) → i ≡ 1 + length ((optional (head (spelling e))).write h) → earlier ≡ first_of heads
      → option_or earlier (first_of (tails i)) ≡ first_of (spots_of (spelling e) (h, t))
  spots_first i earlier x f =
      let n = 1 + length ((optional (head (spelling e))).write h) in
      (λ j. option_or (f j) (first_of (tails (x j)))) ∙ sym (first_both heads (tails n))

-- THE WHOLE TEXT

-- the words of a query are four, the rows of the prefix, and those of the signbox
words_split : (q : Query) → length (words_of q) ≡ 4 + (length (rows_words (map bare (lists_of q.prefix))) + length (rows_words q.items))
unfolding words_of
words_split q = omega (arith, length-append (rows_words (map bare (lists_of q.prefix))) (rows_words q.items))

not_or : (s t : Bool) → not (not s || not t) ≡ s && t
not_or true true = refl
not_or true false = refl
not_or false t = refl

module _ (e : Edition) (s : List ℕ) where
  abbrev sp : Format (Text e)
  sp = query (spelling e)

  abbrev opening : Format (Option (HeadText (spelling e).Says))
  opening = optional (head (spelling e))

  abbrev ending : Format (TailText (spelling e).Says)
  ending = tail (spelling e)

  abbrev pub says : Result (Text e)
  says = of_outcome (length s) (read_query e s)

  pub query_read : read_query e s ≡ ended 1 (length s) (locate sp s 0)
  query_read = reading_at 1 sp (query_lawful (spelling e) (lawful e)) s

  text_refused : (room : ℕ) (d : Refusal) (w : List ℕ) → says ≡ refusal (number_of d) (place_of d) → ReadInto e s room (Err d) w
  unfolding query_of
  text_refused room d w x = record { is = rw x refl; holds = λ k y. refusal_done (number_of d) (place_of d) (sym (rw x refl) ∙ y) }

  pub text_fails : (room : ℕ) (d : Refusal) (w : List ℕ) → FailsAs (length s) (locate sp s 0) d → ReadInto e s room (Err d) w
  text_fails room d w f = text_refused room d w (ap (of_outcome (length s)) query_read ∙ of_fails (length s) (locate sp s 0) d f)

  -- what is answered comes to the refusal of the text
  text_not : (room n p : ℕ) (r : Answer ⊤ Refusal) (w : List ℕ) → says ≡ refusal n p → outcome r ≡ refusal n p → ReadInto e s room r w
  unfolding query_of
  text_not room n p r w x q = record { is = q ∙ rw x refl; holds = λ k y. refusal_done n p (sym (rw x refl) ∙ y) }

  text_fine : (room : ℕ) (t : Text e) (r : Answer ⊤ Refusal) (w : List ℕ) → read_query e s ≡ fine t → outcome r ≡ passed (limited (meant e t) (first_reversed (spots_of (spelling e) t)))
      → (every few (lists_of (meant e t).prefix) ≡ true → passed (limited (meant e t) (first_reversed (spots_of (spelling e) t))) ≡ done tt → length (words_of (meant e t)) + spare ≤ room → w ≡ padded room (words_of (meant e t)))
      → ReadInto e s room r w
  unfolding query_of
  text_fine room t r w x q put = record {
    is = q ∙ rw x refl;
    holds = λ k y m.
        let l : limited (meant e t) (first_reversed (spots_of (spelling e) t)) ≡ done k = sym (rw x refl) ∙ y in
        let p = limited_passed (meant e t) k (first_reversed (spots_of (spelling e) t)) l in
        put ((few_tells (lists_of (meant e t).prefix)).1 p.alternatives_fit.0) (ap passed l) (rw p.same m) ∙ ap (λ k. padded room (words_of k)) p.same;
  }

  module _ (asks : Asks e s) where
    abbrev pub goes : Option (HeadText (spelling e).Says) → ℕ → Located (Text e)
    goes h i = on_found (λ t. (h, t)) (locate ending s i)

    pub query_at : locate sp s 0 ≡ and_then (locate opening s 1) goes
    query_at = asks.is ∙ sequence_at_got opening (λ h. ending) s 1 (got 1 opening (optional_head_lawful (spelling e) (lawful e)) s 1 asks.room)

    module _ (h : Option (HeadText (spelling e).Says)) (kind room : ℕ) (c : Count) (o : List ℕ) (r : Answer ⊤ Refusal) (p : List ℕ) (k : Leads e s h kind room c o) (size : length o ≡ room) (v : TailIn e s kind c o r p) where
      offset : c.next ≡ 1 + length (opening.write h)
      offset = (got 1 opening (optional_head_lawful (spelling e) (lawful e)) s 1 asks.room h c.next k.is).size

      whole : read_query e s ≡ on_fine (λ t. (h, t)) (ended 1 (length s) (locate ending s c.next))
      whole = query_read ∙ ap (ended 1 (length s)) (query_at ∙ ap (λ l. and_then l goes) k.is) ∙ ended_on 1 (length s) (λ t. (h, t)) (locate ending s c.next)

      tail-go : (u : Outcome (TailText (spelling e).Says)) → ended 1 (length s) (locate ending s c.next) ≡ u → ReadInto e s room r p
      unfolding on_fine
      tail-go (fine t) x =
          let q = meant e (h, t) in
          let n : length t.0 ≡ length q.items = sym (length-map t.0 (sought_of (spelling e).means)) in
          let full : Bool = c.crowded || not (all_few (item e true) t.0) in
          let crowd : not full ≡ every few (lists_of q.prefix) && every few (sought_lists q) =
          (λ j. not (k.crowd j || not (signbox_few e t.0 j))) ∙ not_or (every few (lists_of q.prefix)) (every few (sought_lists q)) in
          let same : tail_limits e c t ≡ passed (limited q (first_reversed (spots_of (spelling e) (h, t)))) =
          (λ j. limits (k.count j) (n j) full (spots_first e h t c.next c.reversed offset k.first j)) ∙ limits_same q (first_reversed (spots_of (spelling e) (h, t))) full crowd in
          text_fine room (h, t) r p (whole ∙ ap (on_fine (λ t. (h, t))) x) (v.is ∙ rw x refl ∙ same)
          (λ few z m.
          let fits = words_split q in
          let rows = signbox_words e t.0 in
          let held = k.held few (omega (arith, fits, m)) in
          v.holds t x (same ∙ z) (rw rows (omega (arith, fits, m, size, held.1)))
          ∙ (λ j. sets (sets o c.row (rows j)) 0 (k.kinds j ∷ c.count ∷ n j ∷ q.variance ∷ []))
          ∙ query_put room q c.count c.row o (omega (arith, fits, m)) k.count held.0 held.1)
      tail-go (refused q) x = text_not room text_wrong q r p (ap (of_outcome (length s)) (whole ∙ ap (on_fine (λ t. (h, t))) x)) (v.is ∙ rw x refl)
      tail-go ends_short x = text_not room text_short (length s) r p (ap (of_outcome (length s)) (whole ∙ ap (on_fine (λ t. (h, t))) x)) (v.is ∙ rw x refl)

      text-tail : ReadInto e s room r p
      text-tail = tail-go (ended 1 (length s) (locate ending s c.next)) refl

    -- after what asks for a prefix
    module _ (room : ℕ) (r : Answer (Asked × Count) Refusal) (o : List ℕ) (v : HeadIn e s room r o) where
      pub text-failed : (d : Refusal) (w : List ℕ) → r ≡ Err d → ReadInto e s room (Err d) w
      text-failed d w z = text_refused room d w (v.failed d z)

      pub text_read : (asked : Asked) (c : Count) (h : Answer ⊤ Refusal) (w : List ℕ) → r ≡ Ok (asked, c) → TailIn e s (word_of asked) c o h w → ReadInto e s room h w
      text_read asked c h w z t = let l = (v.leads asked c z).leads c refl in text-tail l.0 (word_of asked) room c o h w l.1 v.size t
