-- The prefix at the start of a text: one law for each return.
use Prim.Native.Nat.{ℕ, ◌≤◌, ◌<◌}
use mathlib.Core.List.{List, [], ◌∷◌, map}
use mathlib.Core.Path.{◌≡◌, refl, sym, ap, ◌∙◌}
use mathlib.Core.Option.{Option, none, some}
use lib.ListN.{length, drop}
use native.Mathlib.Omega.{arith}
use borrow.Author.Tests.{lt-ltb, le-ltb}
use Rattle.format.specs.Format.{Format, other, optional, many}
use Rattle.format.specs.Located.{Located, found, wrong_at, short_here, locate, and_then as thenLocated, on_found}
use Rattle.format.proofs.Delimited.{Delimited, solid}
use Rattle.format.proofs.At.{delimited_got, sequence_at, Wronged, here, later, wronged, cut_reads}
use Rattle.format.proofs.Open.{delimited_open}
use Rattle.format.proofs.Ends.{optional_begun, optional_other, optional_short, optional_empty, one_or_more, one_or_more_lem}
use Rattle.charset.specs.declared.Charset.{Charset}
use Rattle.charset.specs.Tokens.{Tokens, tokens}
use Rattle.charset.proofs.Sets.{lawful}
use Rattle.grammar.specs.Sign.{prefix_symbol, prefix_symbols, prefix, to_prefix}
use Rattle.grammar.proofs.Sign.{symbol_fixed}
use Rattle.std.specs.Prelude.{Result as Answer, Ok, Err}
use Rattle.token.specs.declared.refusal.Refusal.{Refusal}
use Rattle.token.specs.declared.refusal.Refusal.TheVariants.{TextWrong, TextShort}
use Rattle.token.specs.Refusal.{text_wrong, text_short, number_of, place_of}
use Rattle.token.specs.Result.{Result, refusal, done, outcome, on_done, of_located, result_at}
use Rattle.token.specs.Token.{told, token_at}
use Rattle.token.specs.Padded.{padded, zeros}
use Rattle.token.proofs.Told.{Told, told_at, told_wrong}
use Rattle.token.proofs.Checks.{refusal_done}
use Rattle.token.proofs.Results.{located_done}
use Rattle.token.proofs.PaddedLists.{padded_none}
use Rattle.reader.specs.declared.arrays.Count.{Count}
use Rattle.reader.specs.Inner.{count_of, Holds, PrefixIn, Begun, LeadingPrefix}
use Rattle.reader.proofs.Counts.{was_refused, Read, was_read}

abbrev pub Pre : Type 0
Pre = Option (ℕ × (ℕ × List ℕ))

empty_list : (s : List ℕ) → length s ≤ 0 → [] ≡ s
empty_list [] k = refl
empty_list (b ∷ s) k = absurd (omega arith)

module _ (set : Charset) (s : List ℕ) where
  abbrev t : Tokens
  t = tokens set

  abbrev size : ℕ
  size = length s

  abbrev prefixed : Located Pre → Result (List ℕ × ℕ)
  prefixed l = of_located size (on_found to_prefix l)

  prefix_as : (l : Located Pre) (x : Result (List ℕ × ℕ)) (r : Answer Count Refusal) (array : List ℕ) → locate (optional (prefix t)) s 0 ≡ l → prefixed l ≡ x
      → outcome r ≡ on_done count_of x → Holds 32 (λ c. c) x array → LeadingPrefix set s r array
  prefix_as l x r array e q o h = record { is = rw (ap prefixed e ∙ q) o; holds = rw (ap prefixed e ∙ q) h }

  -- WITHOUT AN A

  abbrev none_read : Answer Count Refusal
  none_read = Ok (record { count = 0; end = 0 })

  marker_d : Delimited t.unit (t.marker 0 0)
  marker_d = ((lawful set).marker 0 0 (omega arith) (omega arith)).delimited

  not_begun : (p : ℕ) → Wronged t.unit (t.marker 0 0) marker_d s 0 p → (t.marker 0 0).read (drop 0 s) ≡ other
  not_begun p (here z o) = o
  not_begun p (later rest z k o) = absurd ((lawful set).alone 0 0 (drop 0 s) rest o)

  begun_at : (p : ℕ) → Wronged t.unit (t.marker 0 0) marker_d s 0 p → p ≡ 0
  begun_at p (here z o) = z
  begun_at p (later rest z k o) = absurd ((lawful set).alone 0 0 (drop 0 s) rest o)

  pub prefix_absent : (array : List ℕ) → token_at (t.marker 0 0) s 0 ≡ Err (TextWrong 0) → array ≡ zeros 32 → LeadingPrefix set s none_read array
  unfolding token_at
  prefix_absent array e a =
      let o = not_begun 0 (wronged t.unit (t.marker 0 0) marker_d s 0 0 (told_wrong size (locate (t.marker 0 0) s 0) 0 e)) in
      prefix_as (found none 0) (done ([], 0)) none_read array (optional_other (t.marker 0 0) (λ a. prefix_symbols t) s 0 (omega arith) o) refl refl (a ∙ padded_none 32)

  pub prefix_empty : (array : List ℕ) → length s ≤ 0 → array ≡ zeros 32 → LeadingPrefix set s none_read array
  prefix_empty array k a =
      prefix_as (found none 0) (done ([], 0)) none_read array (optional_empty (t.marker 0 0) (λ a. prefix_symbols t) s (empty_list s k) marker_d.empty) refl refl
      (a ∙ padded_none 32)

  -- a text that ends within an A
  cut_go : (array : List ℕ) (l : Located ℕ) (e : Refusal) → locate (t.marker 0 0) s 0 ≡ l → told size l ≡ Err e → (e ≡ TextWrong 0 → ⊥) → 0 < length s
      → LeadingPrefix set s (Err e) array
  cut_go array (found a i) e q o z k = absurd (cc o)
  cut_go array (wrong_at p) e q o z k =
      let h : TextWrong p ≡ e = cc in
      absurd (z (sym h ∙ ap TextWrong (begun_at p (wronged t.unit (t.marker 0 0) marker_d s 0 p q))))
  cut_go array short_here e q o z k =
      let h : TextShort size ≡ e = cc in
      prefix_as short_here (refusal text_short size) (Err e) array (optional_short (t.marker 0 0) (λ a. prefix_symbols t) s 0 k (cut_reads (t.marker 0 0) s 0 q)) refl
      (ap (λ e. outcome {A = Count} (Err e)) (sym h)) tt

  pub prefix_cut : (array : List ℕ) (e : Refusal) → token_at (t.marker 0 0) s 0 ≡ Err e → (e ≡ TextWrong 0 → ⊥) → 0 < length s → LeadingPrefix set s (Err e) array
  unfolding token_at
  prefix_cut array e = cut_go array (locate (t.marker 0 0) s 0) e refl

  -- AFTER AN A

  module _ (b : Begun set s) (w : ℕ) (k : w ≡ t.marker_size) where
    abbrev pre : Format ℕ
    pre = prefix_symbol (tokens set)

    abbrev a : ℕ
    a = b.marker

    begun : Told t.marker_size (t.marker 0 0) s 0 a
    begun = told_at t.unit t.marker_size (t.marker 0 0) ((lawful set).marker 0 0 (omega arith) (omega arith)) s 0 a b.is

    marker-there : locate (t.marker 0 0) s 0 ≡ found a w
    marker-there = begun.is ∙ ap (found a) (omega arith)

    pub prefix_room : w ≤ length s
    prefix_room = let r = begun.room in omega arith

    abbrev many-found : Located (List ℕ)
    many-found = locate (many pre) s w

    prefix-at : locate (prefix t) s 0 ≡ on_found (λ l. (a, l)) (one_or_more size many-found)
    prefix-at =
        sequence_at t.unit (t.marker 0 0) (λ a. prefix_symbols t) marker_d s 0
        ∙ ap (λ l. thenLocated l λ a i. on_found (λ l. (a, l)) (locate (prefix_symbols t) s i)) marker-there
        ∙ ap (on_found (λ l. (a, l))) (one_or_more_lem t.unit pre (delimited_open t.unit pre (symbol_fixed t (lawful set)).delimited) s w prefix_room)

    -- what follows from what zero or more symbols find
    abbrev after : Located (List ℕ) → Located Pre
    after l = on_found some (on_found (λ l. (a, l)) (one_or_more size l))

    optional-at : locate (optional (prefix t)) s 0 ≡ after many-found
    optional-at =
        let g = delimited_got t.unit (t.marker 0 0) marker_d s 0 a w marker-there in
        let n : 1 ≤ length ((t.marker 0 0).write a) = solid t.unit (t.marker 0 0) marker_d a g.valid in
        optional_begun (t.marker 0 0) (λ a. prefix_symbols t) s 0 a (drop w s) g.reads (omega (arith, n, g.size, g.room))
        ∙ ap (on_found some) prefix-at

    refused-after : (l : Located (List ℕ)) (number place : ℕ) → of_located size l ≡ refusal number place → prefixed (after l) ≡ refusal number place
    refused-after (found l i) number place q = refusal_done number place (sym q)
    refused-after (wrong_at p) number place q = cc
    refused-after short_here number place q = cc

    module _ (r : Answer Count Refusal) (array : List ℕ) (v : PrefixIn set s w r array) where
      pub prefix-bad : (e : Refusal) → r ≡ Err e → LeadingPrefix set s (Err e) array
      prefix-bad e q =
          prefix_as (after many-found) (refusal (number_of e) (place_of e)) (Err e) array optional-at
          (refused-after many-found (number_of e) (place_of e) (was_refused count_of (result_at (many pre) s w) r e v.is q)) refl tt

      module _ (c : Count) (q : r ≡ Ok c) where
        read : Read (result_at (many pre) s w) c
        read = was_read (result_at (many pre) s w) r c v.is q

        there : many-found ≡ found read.symbols c.end
        there = located_done size many-found read.symbols c.end read.is

        -- no symbol after the A
        none-go : (l : List ℕ) → many-found ≡ found l c.end → length l ≡ 0 → many-found ≡ found [] c.end
        none-go [] e z = e
        none-go (c ∷ l) e z = absurd (omega arith)

        none_there : c.count ≤ 0 → locate (optional (prefix t)) s 0 ≡ after (found [] c.end)
        none_there n = let k = read.count in optional-at ∙ ap after (none-go read.symbols there (omega arith))

        pub prefix_none : c.count ≤ 0 → c.end < length s → LeadingPrefix set s (Err (TextWrong c.end)) array
        prefix_none n p =
            prefix_as (wrong_at c.end) (refusal text_wrong c.end) (Err (TextWrong c.end)) array (none_there n ∙ rw (lt-ltb c.end size p)) refl refl tt

        pub prefix_none_cut : c.count ≤ 0 → length s ≤ c.end → LeadingPrefix set s (Err (TextShort (length s))) array
        prefix_none_cut n p =
            prefix_as short_here (refusal text_short size) (Err (TextShort (length s))) array (none_there n ∙ rw (le-ltb c.end size p)) refl refl tt

        -- symbols after the A
        some_go : (l : List ℕ) → many-found ≡ found l c.end → c.count ≡ length l → 0 < c.count → array ≡ padded 32 (map (λ c. c) l)
            → LeadingPrefix set s (Ok c) array
        some_go [] e k n p = absurd (omega arith)
        some_go (d ∷ l) e k n p =
            prefix_as (after (found (d ∷ l) c.end)) (done (d ∷ l, c.end)) (Ok c) array (optional-at ∙ ap after e) refl
            (λ i. done (record { count = k i; end = c.end })) p

        pub prefix-some : 0 < c.count → LeadingPrefix set s (Ok c) array
        prefix-some n =
            let p : array ≡ padded 32 (map (λ c. c) read.symbols) = rw read.is at v.holds in
            some_go read.symbols there read.count n p
