-- The entries: one law for each return.
use Prim.Native.Nat.{ℕ, ◌+◌, ◌-◌, ◌≤◌, ◌<◌}
use mathlib.Core.List.{List, [], ◌++◌, append-nil}
use mathlib.Core.Path.{◌≡◌, refl, sym, ap, subst, ◌∙◌}
use mathlib.Core.Bool.{Bool, true, false, ◌&&◌, and-eq-true_iff}
use lib.ListN.{length, get_or, take, drop, length-append, length-drop, length-take, drop_of_length-le}
use borrow.Rule.Slice.PartMut.{put_mid, mid_of}
use lib.Seq.{drop-append_seam, take-append_seam}
use native.Mathlib.Omega.{arith}
use borrow.Author.Tests.{le-ltb}
use Rattle.format.specs.Places.{fine, reading}
use Rattle.charset.specs.declared.Charset.{Charset}
use Rattle.charset.specs.declared.Charset.TheVariants.{Fsw, Swu}
use Rattle.grammar.specs.Sign.{Meaning, sign_text}
use Rattle.grammar.specs.Size.{sign_size}
use Rattle.grammar.proofs.SignSize.{sign_size_lem, size_most}
use Rattle.std.specs.Prelude.{Result as Answer, Ok, Err}
use Rattle.std.specs.Result.{IsErrAnd}
use Rattle.token.specs.Padded.{zeros}
use Rattle.token.specs.declared.refusal.Refusal.{Refusal}
use Rattle.token.specs.declared.refusal.Refusal.TheVariants.{TextWrong, RoomShort, ZoomOutside, ColourLong, StylesLong}
use Rattle.token.specs.Refusal.{number_of, place_of, zoom_outside, colour_long, styles_long}
use Rattle.token.specs.Result.{Result, refusal, done, outcome, on_done, check, and_then, as_written, output}
use Rattle.token.proofs.Checks.{refusal_done}
use Rattle.token.proofs.Refusals.{counted}
use Rattle.token.proofs.Handed.{handed}
use Rattle.token.proofs.Results.{outcome_done}
use Rattle.token.specs.Wrote.{Wrote}
use Rattle.writer.proofs.Writes.{wrote_more, wrote_as}
use Rattle.writer.proofs.Answers.{Answers, answers_refused, answers_short, answers_done, leaves}
use Rattle.grammar.specs.declared.Head.{Head}
use Rattle.grammar.specs.declared.Symbols.{Symbols}
use Rattle.reader.specs.Inner.{head_of, symbols_of}
use Rattle.reader.proofs.Counts.{was_refused, was_done}
use Rattle.sign.specs.declared.Sign.{Sign}
use Rattle.sign.specs.Reading.{as_reading, reading_of}
use Rattle.sign.specs.Transcription.{other_set}
use Rattle.sign.specs.Inner.{sign_in, Laid}
use Rattle.writer.specs.Arrays.{meaning_in}
use Rattle.sign.proofs.Readings.{laid_there}
use Rattle.sign.proofs.Transcribing.{Lying, lying_there}
use Rattle.stylinggrammar.specs.Styling.{Spelling, styling}
use Rattle.stylinggrammar.specs.Meaning.{meaning, styling_text, zooms_good, names_good, styles_few}
use Rattle.stylinggrammar.specs.StylingLaws.{Accepted}
use Rattle.stylinggrammar.proofs.StylingLaws.{styling_laws}
use Rattle.stylinggrammar.specs.Record.{record_size, draft_size, record_of, styling_in}
use Rattle.stylinggrammar.specs.DraftLaws.{Drafted}
use Rattle.stylinggrammar.proofs.RecordLaws.{record_laws}
use Rattle.stylinggrammar.proofs.Drafts.{draft_laws}
use Rattle.stylingreader.specs.declared.reading.Found.{Found}
use Rattle.stylingreader.specs.Reading.{styling_from, found_of, StylingIn}
use Rattle.stylinggrammar.specs.Styled.{dash_at}
use Rattle.stylinggrammar.proofs.Tests.{true_false}
use Rattle.styling.specs.Reading.{styling_limits, styled_of, styled_reading, record_left}
use Rattle.styling.specs.Transcription.{styled_transcription}
use Rattle.styling.specs.Writing.{record_read, same_numbers, is_record, writing}
use Rattle.styling.specs.Inner.{StyledInto, DraftInto, Ready, record_in}
use Rattle.styling.proofs.Splits.{Split, styled_split, split_dash, limits_done}
use Rattle.styling.proofs.Offsets.{from_start, rest_part}
use Rattle.styling.proofs.Drafting.{string_from}

-- a text that was written at the start of memory with room for it
wrote_sign : (o p text : List ℕ) → length text ≤ length o → p ≡ output o (done text) → Wrote o p 0 (length text) text
unfolding output
wrote_sign o p text l e =
    let q : p ≡ text ++ drop (length text) o = e ∙ rw (le-ltb (length o) (length text) l) in
    record {
      next = omega arith;
      room = l;
      same = ap length q ∙ omega (arith, length-append text (drop (length text) o), length-drop (length text) o);
      front = ap (take (length text)) q ∙ take-append_seam text (drop (length text) o);
      rest = ap (drop (length text)) q ∙ drop-append_seam text (drop (length text) o);
    }

-- a text that was read: its sign, its styling and where that starts
pub record WasRead (set : Charset) (s : List ℕ) (h : Head) (at : ℕ) (symbols : Symbols) : Type 0 where
  pub both : Meaning × Spelling
  pub reads : styled_of set s ≡ done both
  pub split : Split set s both.0 both.1
  pub head : h ≡ head_of both.0
  pub place : at ≡ dash_at s
  pub holds : symbols ≡ symbols_of both.0

module _ (set : Charset) (s : List ℕ) (symbols : Symbols) where
  -- REFUSED
  module _ (e : Refusal) (v : StyledInto set s (Err e) symbols) where
    styled_refused : styled_of set s ≡ refusal (number_of e) (place_of e)
    styled_refused = was_refused (λ p. (head_of p.0, dash_at s)) (styled_of set s) (Err e) e v.is refl

    pub reading_refused : (o : List ℕ) (r : Answer Sign Refusal) → IsErrAnd r (λ d. d ≡ e) → record { answer : as_reading r ≡ styled_reading set s; memory : o ≡ record_left o (styled_of set s) }
    unfolding reading_of
    reading_refused o r k = rw (styled_refused, handed r e k) (record { answer = refl; memory = refl })

    pub transcribed_refused : (o : List ℕ) (r : Answer ℕ Refusal) → IsErrAnd r (λ d. d ≡ e) → Answers o (styled_transcription set s) (as_written r) o
    unfolding styled_transcription
    transcribed_refused o r k = rw (handed r e k) (answers_refused o (ap (on_done (λ p. sign_text (other_set set) p.0 ++ drop (dash_at s) s)) styled_refused))

  -- READ
  module _ (h : Head) (place : ℕ) (v : StyledInto set s (Ok (h, place)) symbols) where
    pub was : WasRead set s h place symbols
    was =
        let d = was_done (λ p. (head_of p.0, dash_at s)) (styled_of set s) (Ok (h, place)) (h, place) v.is refl in
        record {
          both = d.0;
          reads = d.1.0;
          split = styled_split set s d.0 d.1.0;
          head = sym (ap (λ p. p.0) d.1.1);
          place = sym (ap (λ p. p.1) d.1.1);
          holds = rw d.1.0 at v.holds;
        }

    pub place_inside : place ≤ length s
    place_inside =
        omega (arith, was.place, split_dash set s was.both.0 was.both.1 was.split, ap length was.split.is, length-append (sign_text set was.both.0) (styling.write was.both.1))

    -- the part of the text from the dash on
    abbrev rest : List ℕ
    rest = take (length s - place) (drop place s)

    rest_is : rest ≡ drop (dash_at s) s
    rest_is = rest_part s place ∙ ap (λ i. drop i s) was.place

    rest_from : styling_from rest 0 ≡ done was.both.1
    rest_from = ap (λ u. styling_from u 0) rest_is ∙ string_from set s was.both.0 was.both.1 was.split

    pub ready : (draft : List ℕ) → DraftInto set s (zeros draft_size) draft → Ready rest draft
    ready draft d = record { spelling = was.both.1; reads = rest_from; accepted = was.split.accepted; kept = d.is was.both was.reads }

    pub lying : Lying was.both.0 h symbols
    lying = lying_there was.both.0 was.split.within h symbols was.head was.holds

    pub laid : Laid h symbols
    laid = laid_there was.both.0 h symbols was.split.within.prefix was.split.within.symbols was.head was.holds

    pub reading_done : (o w : List ℕ) (r : Sign) → r ≡ sign_in set h symbols → w ≡ record_in (styling_from rest 0)
        → record { answer : as_reading (Ok r) ≡ styled_reading set s; memory : w ≡ record_left o (styled_of set s) }
    unfolding reading_of
    reading_done o w r e q =
        rw was.reads record {
          answer = (λ i. as_reading (Ok (e i))) ∙ (λ i. as_reading (Ok (sign_in set (was.head i) (was.holds i))));
          memory = q ∙ ap record_in rest_from;
        }

    -- TRANSCRIPTION
    is-done : styled_transcription set s ≡ done (sign_text (other_set set) was.both.0 ++ drop (dash_at s) s)
    unfolding styled_transcription
    is-done = ap (on_done (λ p. sign_text (other_set set) p.0 ++ drop (dash_at s) s)) was.reads

    module _ (other : Charset) (e : other ≡ other_set set) (at : ℕ) (n : at ≡ sign_size other h.prefix_count h.symbol_count) where
      -- the size of the sign, and of all
      at-is : at ≡ length (sign_text other was.both.0)
      at-is =
          n ∙ (λ i. sign_size other (was.head i).prefix_count (was.head i).symbol_count) ∙ sym (sign_size_lem other was.both.0 was.split.within.valid)

      pub at_most : at ≤ 1033
      at_most = most other n
        where
          most : (o : Charset) → at ≡ sign_size o h.prefix_count h.symbol_count → at ≤ 1033
          most Fsw q = omega (arith, q, size_most Fsw h.prefix_count h.symbol_count lying.prefix_most lying.symbols_most)
          most Swu q = omega (arith, q, size_most Swu h.prefix_count h.symbol_count lying.prefix_most lying.symbols_most)

      abbrev all : List ℕ
      all = sign_text other was.both.0 ++ drop (dash_at s) s

      all_done : styled_transcription set s ≡ done all
      all_done = is-done ∙ (λ i. done (sign_text (sym e i) was.both.0 ++ drop (dash_at s) s))

      size_is : at + (length s - place) ≡ length all
      size_is =
          (λ i. at-is i + (length s - was.place i)) ∙ ap (λ i. length (sign_text other was.both.0) + i) (sym (length-drop (dash_at s) s))
          ∙ sym (length-append (sign_text other was.both.0) (drop (dash_at s) s))

      pub transcribed-short : (o : List ℕ) → length o < at + (length s - place) → Answers o (styled_transcription set s) (as_written (Err (RoomShort (at + (length s - place))))) o
      transcribed-short o l = answers_short o all_done size_is l

      module _ (o p : List ℕ) (room : at + (length s - place) ≤ length o) (w : Answer ℕ Refusal) (a : Answers o (done (sign_text other (meaning_in h symbols))) (as_written w) p) where
        -- there is room for the sign
        pub never_short : (d : Refusal) → w ≡ Err d → {X : Type 0} → X
        never_short d q =
            let l : length (sign_text other (meaning_in h symbols)) ≤ length o = omega (arith, ap (λ m. length (sign_text other m)) lying.same, at-is) in
            absurd (counted d (ap (λ r. (as_written r).number) (sym q) ∙ ap (λ r. r.number) (a.answer ∙ (leaves o refl l).answer)))

        sign-wrote : Wrote o p 0 at (sign_text other was.both.0)
        sign-wrote = rw at-is (wrote_sign o p (sign_text other was.both.0) (omega (arith, at-is)) (a.memory ∙ ap (λ m. output o (done (sign_text other m))) lying.same))

        pub transcribed-done : (q : List ℕ) (n : ℕ) → Wrote p q at n rest → Answers o (styled_transcription set s) (as_written (Ok (at + (length s - place)))) q
        transcribed-done q n v =
            let t : Wrote o q 0 n all = wrote_more sign-wrote (wrote_as v rest_is) in
            let y : n ≡ at + (length s - place) = t.next ∙ omega (arith, size_is) in
            answers_done all_done (rw y at t)

-- A RECORD

module _ (u : List ℕ) where
  fine_of : (t : Spelling) → styling_from u 0 ≡ done t → reading 1 styling u ≡ fine t
  fine_of t e = outcome_done (length u) (reading 1 styling u) t (sym (from_start u) ∙ e)

  filled : (t : Spelling) (f : Answer Found Refusal) (p : List ℕ) → styling_from u 0 ≡ done t → Accepted t → StylingIn u 0 f (zeros record_size) p → p ≡ record_of (meaning t)
  filled t f p e a v = v.puts t e ∙ record_laws.fills t ((styling_laws.fines u t).0 (fine_of t e)).0 a

  module _ (draft : List ℕ) (r : Ready u draft) where
    -- filled from the text
    pub fill_read : (f : Answer Found Refusal) (p : List ℕ) → StylingIn u 0 f (zeros record_size) p → p ≡ record_in (styling_from u 0)
    fill_read f p v = filled r.spelling f p r.reads r.accepted v ∙ ap record_in (sym r.reads)

    -- filled from the draft
    drafted : Drafted r.spelling draft
    drafted =
        subst (λ (l : List ℕ). Drafted r.spelling l) (sym r.kept)
        (draft_laws.drafts r.spelling ((styling_laws.fines u r.spelling).0 (fine_of r.spelling r.reads)).0 r.accepted)

    pub draft_long : length draft ≡ draft_size
    draft_long = drafted.size

    fill_copied : get_or draft 4 0 ≤ 8 → draft ++ zeros (record_size - draft_size) ≡ record_in (styling_from u 0)
    fill_copied few = sym (drafted.start (omega (arith, drafted.count))) ∙ ap record_in (sym r.reads)

    -- two slices that were written
    slices_go : (a k : ℕ) (front tail back : List ℕ) → a ≡ length front → length tail ≤ k → put_mid a k (front ++ tail) back ≡ front ++ back
    slices_go a k front tail back e l =
        let x : take a (front ++ tail) ≡ front = ap (λ n. take n (front ++ tail)) e ∙ take-append_seam front tail in
        let y : drop a (front ++ tail) ≡ tail = ap (λ n. drop n (front ++ tail)) e ∙ drop-append_seam front tail in
        let z : drop k tail ≡ [] = drop_of_length-le tail l in
        (λ i. x i ++ (back ++ drop k (y i))) ∙ (λ i. front ++ (back ++ z i)) ∙ ap (λ l. front ++ l) (append-nil back)

    pub fill_slices : get_or draft 4 0 ≤ 8 → (front tail back : List ℕ) → front ≡ draft → length tail ≡ record_size - draft_size
        → back ≡ zeros (length (mid_of draft_size (record_size - draft_size) (front ++ tail)))
        → put_mid draft_size (record_size - draft_size) (front ++ tail) back ≡ record_in (styling_from u 0)
    fill_slices few front tail back e l f =
        let room = record_size - draft_size in
        let n : length (mid_of draft_size room (front ++ tail)) ≡ room =
        omega (arith, length-take room (drop draft_size (front ++ tail)), length-drop draft_size (front ++ tail), length-append front tail, ap length e, draft_long) in
        slices_go draft_size room front tail back (sym (ap length e ∙ draft_long)) (omega arith) ∙ (λ i. e i ++ (f ∙ ap zeros n) i) ∙ fill_copied few

  -- whether a string reads as a record
  abbrev judged : Result Spelling → Result (List ℕ)
  judged r = on_done (λ t. record_of (meaning t)) (and_then r styling_limits)

  record_is : record_read u ≡ judged (styling_from u 0)
  unfolding record_read
  record_is = ap judged (sym (from_start u))

  module _ (w again : List ℕ) where
    refused_go : (e : Refusal) (r : Result Spelling) → outcome {A = Found} (Err e) ≡ on_done found_of r → false ≡ is_record w (judged r)
    refused_go e (refusal n p) q = refl
    refused_go e (done t) q = refusal_done (number_of e) (place_of e) q

    pub not_read_as : (e : Refusal) → StylingIn u 0 (Err e) (zeros record_size) again → false ≡ is_record w (record_read u)
    not_read_as e v = refused_go e (styling_from u 0) v.is ∙ ap (is_record w) (sym record_is)

    module _ (f : Found) (v : StylingIn u 0 (Ok f) (zeros record_size) again) where
      found : (t : Spelling) × ((styling_from u 0 ≡ done t) × (f ≡ found_of t))
      found = let d = was_done found_of (styling_from u 0) (Ok f) f v.is refl in (d.0, (d.1.0, sym d.1.1))

      -- the limit that is not kept
      limits_go : (t : Spelling) (z n k : Bool) → (z && (n && k)) ≡ false
          → false ≡ is_record w (on_done (λ t. record_of (meaning t)) (check z zoom_outside 0 (check n colour_long 0 (check k styles_long 0 (done t)))))
      limits_go t true true true e = true_false e
      limits_go t true true false e = refl
      limits_go t true false k e = refl
      limits_go t false n k e = refl

      pub limits_not : (f.zooms && (f.names && f.few)) ≡ false → false ≡ is_record w (record_read u)
      limits_not e =
          let t = found.0 in
          limits_go t (zooms_good t) (names_good t) (styles_few t) (ap (λ f. f.zooms && (f.names && f.few)) (sym found.1.1) ∙ e)
          ∙ ap (λ r. is_record w (judged r)) (sym found.1.0) ∙ ap (is_record w) (sym record_is)

      -- within all limits
      pub read_as : (f.zooms && (f.names && f.few)) ≡ true → (r : Bool) → r ≡ same_numbers w again → r ≡ is_record w (record_read u)
      read_as e r q =
          let t = found.0 in
          let i = found.1.1 in
          let x = (and-eq-true_iff f.zooms (f.names && f.few)).0 e in
          let y = (and-eq-true_iff f.names f.few).0 x.1 in
          let a : Accepted t = record { zooms = sym (ap (λ f. f.zooms) i) ∙ x.0; names = sym (ap (λ f. f.names) i) ∙ y.0; few = sym (ap (λ f. f.few) i) ∙ y.1 } in
          q ∙ ap (same_numbers w) (filled t (Ok f) again found.1.0 a v) ∙ sym (ap (λ r. is_record w (on_done (λ t. record_of (meaning t)) r)) (limits_done t a))
          ∙ ap (λ r. is_record w (judged r)) (sym found.1.0) ∙ ap (is_record w) (sym record_is)

-- WRITING: the text of the styling in a record was put at the start of a buffer, and read again

module _ (w blank buffer : List ℕ) (size : ℕ) (v : Wrote blank buffer 0 size (styling_text (styling_in w))) where
  abbrev text : List ℕ
  text = take size buffer

  text_is : text ≡ styling_text (styling_in w)
  text_is = v.front

  bytes_are : size ≡ length (styling_text (styling_in w))
  bytes_are = v.next ∙ omega arith

  module _ (b : Bool) (q : b ≡ is_record w (record_read text)) where
    pub write_refused : (o : List ℕ) → b ≡ false → Answers o (writing w) (as_written (Err (TextWrong 0))) o
    unfolding writing
    write_refused o z = answers_refused o (rw (ap (λ t. is_record w (record_read t)) (sym text_is) ∙ sym q ∙ z))

    module _ (z : b ≡ true) where
      writes : writing w ≡ done (styling_text (styling_in w))
      unfolding writing
      writes = rw (ap (λ t. is_record w (record_read t)) (sym text_is) ∙ sym q ∙ z)

      pub write-short : (o : List ℕ) → length o < size → Answers o (writing w) (as_written (Err (RoomShort size))) o
      write-short o l = answers_short o writes bytes_are l

      pub write_done : (o p : List ℕ) (n : ℕ) → Wrote o p 0 n text → Answers o (writing w) (as_written (Ok size)) p
      write_done o p n k =
          let t : Wrote o p 0 n (styling_text (styling_in w)) = wrote_as k text_is in
          let y : n ≡ size = t.next ∙ omega (arith, bytes_are) in
          answers_done writes (rw y at t)
