-- A sign and its transcription read as signs equal in all but offsets, and the way back returns the same bytes.
use Rattle.std.proofs.Common.{◌≡◌, ℕ, ◌≤◌, ◌↔◌, List, length, sym, refl, ap, ◌∙◌}
use Rattle.charset.specs.declared.Charset.{Charset}
use Rattle.charset.specs.declared.Charset.TheVariants.{Fsw, Swu}
use Rattle.grammar.specs.Sign.{Meaning, sign_text}
use Rattle.grammar.specs.Offsets.{steps, prefix_offsets, symbol_offsets}
use Rattle.grammar.proofs.SignLaws.{sign_laws}
use Rattle.token.specs.Padded.{padded}
use Rattle.token.specs.Result.{done, on_done, written, left_text, Leaves}
use Rattle.token.proofs.Checks.{Counted, on_done_done, on_done_counted}
use Rattle.writer.proofs.Answers.{accepted, leaves}
use Rattle.reader.specs.Signs.{sign_of}
use Rattle.reader.proofs.Limits.{limited_sign, sign_counted}
use Rattle.sign.specs.Reading.{packed, reading_of, reading_in}
use Rattle.sign.specs.OffsetLaws.{with_offsets, ReadAlike}
use Rattle.sign.specs.Transcription.{other_set, transcription, TranscriptionLaws}
use Rattle.sign.proofs.Packed.{Within, sign_within, sign_reads}
use Rattle.sign.proofs.OffsetLaws.{meant_alike, packed_apart}

-- what is within the limits is read back from its text, in either set
pub written_reads : (set : Charset) (m : Meaning) → Within m → sign_of set (sign_text set m) ≡ done m
written_reads set m w =
    limited_sign set (sign_text set m) m (record { says = (sign_laws set).reads m w.valid; prefix = w.prefix; symbols = w.symbols })

pub twice : (set : Charset) → other_set (other_set set) ≡ set
twice Fsw = refl
twice Swu = refl

-- the meaning of a text that has a transcription
record Meant (set : Charset) (text other : List ℕ) : Type 0 where
  pub meaning : Meaning
  pub reads : sign_of set text ≡ done meaning
  pub is : other ≡ sign_text (other_set set) meaning

meant : (set : Charset) (text other : List ℕ) → transcription set text ≡ done other → Meant set text other
unfolding transcription
meant set text other e =
    let d = on_done_done (sign_text (other_set set)) (sign_of set text) e in
    record { meaning = d.0; reads = d.1.0; is = sym d.1.1 }

-- the transcription means the same
other_reads : (set : Charset) (text other : List ℕ) (k : Meant set text other) → sign_of (other_set set) other ≡ done k.meaning
other_reads set text other k =
    ap (sign_of (other_set set)) k.is ∙ written_reads (other_set set) k.meaning (sign_within set text k.meaning k.reads)

equal : (set : Charset) (text other : List ℕ) → transcription set text ≡ done other → ReadAlike (other_set set) other set text
equal set text other e =
    let k = meant set text other e in
    meant_alike (other_set set) other set text k.meaning (other_reads set text other k) k.reads

-- without symbols there are no offsets
none_packed : (set set₂ : Charset) (m : Meaning) → length m.prefix ≡ 0 → length m.symbols ≡ 0 → packed set m ≡ packed set₂ m
unfolding steps
none_packed set set₂ m p n =
    let prefix : prefix_offsets set (length m.prefix) ≡ prefix_offsets set₂ (length m.prefix) = ap (prefix_offsets set) p ∙ sym (ap (prefix_offsets set₂) p) in
    let symbols : symbol_offsets set (length m.prefix) (length m.symbols) ≡ symbol_offsets set₂ (length m.prefix) (length m.symbols) =
    ap (symbol_offsets set (length m.prefix)) n ∙ sym (ap (symbol_offsets set₂ (length m.prefix)) n) in
    λ i. with_offsets (padded 32 (prefix i)) (padded 64 (symbols i)) (packed set m)

same_packed : (set : Charset) (m : Meaning) → packed (other_set set) m ≡ packed set m → (length m.prefix ≡ 0) × (length m.symbols ≡ 0)
same_packed Fsw m e = packed_apart m m (sym e)
same_packed Swu m e = packed_apart m m e

same : (set : Charset) (text other : List ℕ) → transcription set text ≡ done other
    → ((reading_in (other_set set) other).sign ≡ (reading_in set text).sign)
    ↔ (((reading_in set text).sign.prefix_count ≡ 0) × ((reading_in set text).sign.symbol_count ≡ 0))
unfolding reading_of
same set text other e =
    let k = meant set text other e in
    let m = k.meaning in
    rw (other_reads set text other k, k.reads) (same_packed set m, λ q. none_packed (other_set set) set m q.0 q.1)

back : (set : Charset) (text other : List ℕ) → transcription set text ≡ done other → transcription (other_set set) other ≡ done text
unfolding transcription
back set text other e =
    let k = meant set text other e in
    ap (on_done (sign_text (other_set (other_set set)))) (other_reads set text other k)
    ∙ ap (λ c. done (sign_text c k.meaning)) (twice set)
    ∙ ap done (sym (sign_reads set text k.meaning k.reads))

-- a call that was accepted, and the one back
counted : (set : Charset) (text : List ℕ) → Counted (transcription set text)
unfolding transcription
counted set text = on_done_counted (sign_text (other_set set)) (sign_of set text) (sign_counted set text)

returned : (set : Charset) (text out room : List ℕ) → (written out (transcription set text)).number ≡ 0 → length text ≤ length room
    → Leaves room (transcription (other_set set) (left_text out (transcription set text))) text
returned set text out room h l =
    let a = accepted out (transcription set text) (counted set text) h in
    leaves room (ap (transcription (other_set set)) a.front ∙ back set text a.text a.is) l

pub transcription_laws : TranscriptionLaws
transcription_laws = record { equal = equal; same = same; back = back; returned = returned }
