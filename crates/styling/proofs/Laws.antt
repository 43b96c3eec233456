-- The laws of reading, writing and transcription.
use Prim.Native.Nat.{ℕ, ◌≤◌}
use mathlib.Core.Path.{◌≡◌, refl, sym, ap, ◌∙◌}
use mathlib.Core.List.{List, [], ◌++◌}
use mathlib.Core.Bool.{Bool, true, false}
use mathlib.Core.Logic.{◌↔◌}
use native.Mathlib.Omega.{arith}
use lib.ListN.{length, take, drop}
use Rattle.std.proofs.lemmas.Slice.Eq.{bytes_eq-Decides}
use Rattle.format.specs.Places.{fine, reading}
use Rattle.charset.specs.declared.Charset.{Charset}
use Rattle.grammar.specs.Sign.{Meaning, sign_text}
use Rattle.token.specs.Refusal.{text_wrong}
use Rattle.token.specs.Result.{Result, refusal, done, on_done, check, written, left_text, Leaves}
use Rattle.token.proofs.Checks.{refusal_done, check_done, on_done_done, Counted, on_done_counted}
use Rattle.token.proofs.Results.{same_done}
use Rattle.writer.proofs.Answers.{accepted, leaves}
use Rattle.reader.specs.Signs.{sign_of}
use Rattle.sign.specs.Reading.{reading_of, reading_in}
use Rattle.sign.specs.Transcription.{other_set, transcription}
use Rattle.sign.proofs.Packed.{sign_within, sign_reads}
use Rattle.sign.proofs.Transcriptions.{written_reads, twice}
use Rattle.stylinggrammar.specs.Styling.{Spelling, styling}
use Rattle.stylinggrammar.specs.Meaning.{meaning, styling_text, Valid}
use Rattle.stylinggrammar.specs.StylingLaws.{Reads}
use Rattle.stylinggrammar.proofs.StylingLaws.{styling_laws}
use Rattle.stylinggrammar.specs.Record.{record_of, styling_in}
use Rattle.stylinggrammar.proofs.RecordLaws.{record_laws}
use Rattle.stylinggrammar.proofs.Tests.{true_false}
use Rattle.stylinggrammar.specs.Styled.{dash_at}
use Rattle.styling.specs.Reading.{styled_of, styled_reading, record_left}
use Rattle.styling.specs.Transcription.{styled_transcription}
use Rattle.styling.specs.Writing.{record_read, same_numbers, is_record, writing}
use Rattle.styling.specs.Laws.{HasRecord, ReadingLaws, WritingLaws, StyledTranscriptionLaws}
use Rattle.styling.proofs.Splits.{String, string_of, string_reads, Split, styled_split, split_styled, styled_counted, split_sign, split_string}

-- READING

pub written_string : (t : Spelling) → styling.Valid t → reading 1 styling (styling.write t) ≡ fine t
written_string t ok = (styling_laws.fines (styling.write t) t).1 (ok, refl)

split_record : (set : Charset) (text : List ℕ) (m : Meaning) (t : Spelling) → Split set text m t → record_read (drop (dash_at text) text) ≡ done (record_of (meaning t))
split_record set text m t s =
    string_reads (drop (dash_at text) text) (record_of (meaning t))
    (record { spelling = t; reads = ap (reading 1 styling) (split_string set text m t s) ∙ written_string t s.valid; accepted = s.accepted; is = refl })

sign_read : (set : Charset) (text : List ℕ) (p : Meaning × Spelling) → styled_of set text ≡ done p → styled_reading set text ≡ reading_in set (take (dash_at text) text)
sign_read set text p e =
    let s = styled_split set text p e in
    ap (λ r. reading_of set (on_done (λ p. p.0) r)) e
    ∙ ap (reading_of set) (sym (ap (sign_of set) (split_sign set text p.0 p.1 s) ∙ written_reads set p.0 s.within))

-- a text that is read as a record
record_go : (set : Charset) (text w : List ℕ) → HasRecord set text w → (r : Result (Meaning × Spelling)) → styled_of set text ≡ r
    → (p : Meaning × Spelling) × ((styled_of set text ≡ done p) × (record_of (meaning p.1) ≡ w))
unfolding reading_of
record_go set text w h (refusal n p) e =
    absurd (let z : n ≡ 0 = sym (ap (λ r. (reading_of set (on_done (λ (k : Meaning × Spelling). k.0) r)).number) e) ∙ h.0 in omega (arith, styled_counted set text n p e))
record_go set text w h (done p) e = (p, (e, sym (ap (record_left []) e) ∙ h.1 []))

record_read_lem : (set : Charset) (text w : List ℕ) → HasRecord set text w → record_read (drop (dash_at text) text) ≡ done w
record_read_lem set text w h =
    let d = record_go set text w h (styled_of set text) refl in
    let p = d.0 in
    split_record set text p.0 p.1 (styled_split set text p d.1.0) ∙ ap done d.1.1

join : (set : Charset) (text : List ℕ) (m : Meaning) (string w : List ℕ) → sign_of set text ≡ done m → (k : String string w) → Split set (text ++ string) m k.spelling
join set text m string w e k =
    let f = (styling_laws.fines string k.spelling).0 k.reads in
    record {
      within = sign_within set text m e;
      valid = f.0;
      accepted = k.accepted;
      is = λ i. sign_reads set text m e i ++ f.1 i;
    }

joined : (set : Charset) (text : List ℕ) (m : Meaning) (string w : List ℕ) → sign_of set text ≡ done m → record_read string ≡ done w
    → HasRecord set (text ++ string) w × (styled_reading set (text ++ string) ≡ reading_in set text)
unfolding reading_of
joined set text m string w e r =
    let k = string_of string w r in
    let y = split_styled set (text ++ string) m k.spelling (join set text m string w e k) in (
      (ap (λ r. (reading_of set (on_done (λ (p : Meaning × Spelling). p.0) r)).number) y, λ before. ap (record_left before) y ∙ k.is),
      ap (λ r. reading_of set (on_done (λ p. p.0) r)) y ∙ ap (reading_of set) (sym e),
    )

pub reading_laws : ReadingLaws
reading_laws = record { sign = sign_read; styling = record_read_lem; joined = joined }

-- WRITING

same_refl : (l : List ℕ) → same_numbers l l ≡ true
same_refl l = (bytes_eq-Decides l l).1 refl

pub same_true : (l m : List ℕ) → same_numbers l m ≡ true → l ≡ m
same_true l m = (bytes_eq-Decides l m).0

record_true : (w : List ℕ) (r : Result (List ℕ)) → is_record w r ≡ true → r ≡ done w
record_true w (refusal n p) e = true_false (sym e)
record_true w (done v) e = ap done (sym (same_true w v e))

true_record : (w : List ℕ) (r : Result (List ℕ)) → r ≡ done w → is_record w r ≡ true
true_record w r e = rw e (same_refl w)

abbrev tried : List ℕ → List ℕ
tried w = styling_text (styling_in w)

written_reads_as : (w text : List ℕ) → writing w ≡ done text → record_read text ≡ done w
unfolding writing
written_reads_as w text e =
    let c = check_done (is_record w (record_read (tried w))) text_wrong 0 (done (tried w)) e in
    let same : tried w ≡ text = cc c.1 in
    rw same at (record_true w (record_read (tried w)) c.0)

-- a record that some text reads as is written
module _ (w text : List ℕ) (r : record_read text ≡ done w) where
  k : String text w
  k = string_of text w r

  means : Reads text (meaning k.spelling)
  means = record { spelling = k.spelling; reads = k.reads; accepted = k.accepted; means = refl }

  valid : Valid (meaning k.spelling)
  valid = styling_laws.valid text (meaning k.spelling) means

  tried_is : tried w ≡ styling_text (meaning k.spelling)
  tried_is = ap styling_text (ap styling_in (sym k.is) ∙ record_laws.back (meaning k.spelling) valid)

  tried_reads : record_read (tried w) ≡ done w
  tried_reads =
      let b = styling_laws.reads (meaning k.spelling) valid in
      ap record_read tried_is
      ∙ string_reads (styling_text (meaning k.spelling)) w
      (record { spelling = b.spelling; reads = b.reads; accepted = b.accepted; is = ap record_of b.means ∙ k.is })

  pub writes_it : writing w ≡ done (tried w)
  unfolding writing
  writes_it = rw (true_record w (record_read (tried w)) tried_reads)

refused_go : (w : List ℕ) (t : Bool) → is_record w (record_read (tried w)) ≡ t → ((text : List ℕ) → record_read text ≡ done w → ⊥) → check t text_wrong 0 (done (tried w)) ≡ refusal text_wrong 0
refused_go w true e n = absurd (n (tried w) (record_true w (record_read (tried w)) e))
refused_go w false e n = refl

refused_exactly : (w : List ℕ) → (writing w ≡ refusal text_wrong 0) ↔ ((text : List ℕ) → record_read text ≡ done w → ⊥)
unfolding writing
refused_exactly w = (
  λ e text r. refusal_done text_wrong 0 (sym e ∙ writes_it w text r),
  λ n. refused_go w (is_record w (record_read (tried w))) refl n,
)

shortest : (w text short : List ℕ) → record_read text ≡ done w → writing w ≡ done short → length short ≤ length text
shortest w text short r e =
    let z : short ≡ styling_text (meaning (k w text r).spelling) = same_done (sym e ∙ writes_it w text r) ∙ tried_is w text r in
    rw z (styling_laws.shortest text (meaning (k w text r).spelling) (means w text r))

unique : (w text short : List ℕ) → record_read text ≡ done w → writing w ≡ done short → length text ≤ length short → text ≡ short
unique w text short r e h =
    let z : short ≡ styling_text (meaning (k w text r).spelling) = same_done (sym e ∙ writes_it w text r) ∙ tried_is w text r in
    styling_laws.unique text (meaning (k w text r).spelling) (means w text r) (rw z at h) ∙ sym z

again : (w text v : List ℕ) → writing w ≡ done text → record_read text ≡ done v → writing v ≡ done text
again w text v e r = ap writing (same_done (sym r ∙ written_reads_as w text e)) ∙ e

pub writing_laws : WritingLaws
writing_laws = record {
  refused = refused_exactly;
  reads = written_reads_as;
  writes = λ w text r. (tried w, writes_it w text r);
  shortest = shortest;
  unique = unique;
  again = again;
}

-- TRANSCRIPTION

-- a text that has a transcription, and the two splits
record Both (set : Charset) (text other : List ℕ) : Type 0 where
  pub sign : Meaning
  pub spelling : Spelling
  pub here : Split set text sign spelling
  pub there : Split (other_set set) other sign spelling

both : (set : Charset) (text other : List ℕ) → styled_transcription set text ≡ done other → Both set text other
unfolding styled_transcription
both set text other e =
    let d = on_done_done (λ p. sign_text (other_set set) p.0 ++ drop (dash_at text) text) (styled_of set text) e in
    let p = d.0 in
    let s = styled_split set text p d.1.0 in
    record {
      sign = p.0;
      spelling = p.1;
      here = s;
      there = record {
        within = s.within;
        valid = s.valid;
        accepted = s.accepted;
        is = sym d.1.1 ∙ ap (λ u. sign_text (other_set set) p.0 ++ u) (split_string set text p.0 p.1 s);
      };
    }

module _ (set : Charset) (text other : List ℕ) (e : styled_transcription set text ≡ done other) where
  b : Both set text other
  b = both set text other e

  styling_same : drop (dash_at other) other ≡ drop (dash_at text) text
  styling_same = split_string (other_set set) other b.sign b.spelling b.there ∙ sym (split_string set text b.sign b.spelling b.here)

  sign_transcribed : transcription set (take (dash_at text) text) ≡ done (take (dash_at other) other)
  unfolding transcription
  sign_transcribed =
      ap (λ u. on_done (sign_text (other_set set)) (sign_of set u)) (split_sign set text b.sign b.spelling b.here)
      ∙ ap (on_done (sign_text (other_set set))) (written_reads set b.sign b.here.within)
      ∙ ap done (sym (split_sign (other_set set) other b.sign b.spelling b.there))

  back : styled_transcription (other_set set) other ≡ done text
  unfolding styled_transcription
  back =
      ap (on_done (λ p. sign_text (other_set (other_set set)) p.0 ++ drop (dash_at other) other)) (split_styled (other_set set) other b.sign b.spelling b.there)
      ∙ (λ i. done (sign_text (twice set i) b.sign ++ split_string (other_set set) other b.sign b.spelling b.there i))
      ∙ ap done (sym b.here.is)

transcription_counted : (set : Charset) (text : List ℕ) → Counted (styled_transcription set text)
unfolding styled_transcription
transcription_counted set text = on_done_counted (λ p. sign_text (other_set set) p.0 ++ drop (dash_at text) text) (styled_of set text) (styled_counted set text)

returned : (set : Charset) (text out room : List ℕ) → (written out (styled_transcription set text)).number ≡ 0 → length text ≤ length room
    → Leaves room (styled_transcription (other_set set) (left_text out (styled_transcription set text))) text
returned set text out room h l =
    let a = accepted out (styled_transcription set text) (transcription_counted set text) h in
    leaves room (ap (styled_transcription (other_set set)) a.front ∙ back set text a.text a.is) l

pub styled_transcription_laws : StyledTranscriptionLaws
styled_transcription_laws = record { sign = sign_transcribed; styling = styling_same; back = back; returned = returned }
