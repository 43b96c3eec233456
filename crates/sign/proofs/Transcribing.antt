-- A sign that was read into memory lies in it, so that writing it writes the sign.
use Rattle.std.proofs.Common.{◌≡◌, ℕ, ◌≤◌, List, length, sym, ap, ◌∙◌, arith}
use Rattle.std.specs.Prelude.{Result as Answer, Ok, Err}
use Rattle.charset.specs.declared.Charset.{Charset}
use Rattle.charset.specs.declared.Charset.TheVariants.{Fsw}
use Rattle.grammar.specs.declared.Head.{Head}
use Rattle.grammar.specs.declared.Symbols.{Symbols}
use Rattle.grammar.specs.Sign.{Meaning, Valid, sign_text}
use Rattle.token.specs.declared.refusal.Refusal.{Refusal}
use Rattle.token.specs.Result.{Written, done, on_done, as_written}
use Rattle.writer.specs.Arrays.{meaning_in}
use Rattle.writer.proofs.Answers.{Answers, answers_refused}
use Rattle.reader.specs.Signs.{sign_of}
use Rattle.reader.specs.Inner.{head_of, symbols_of, ReadInto}
use Rattle.reader.proofs.Counts.{was_refused}
use Rattle.sign.specs.Transcription.{other_set, transcription}
use Rattle.sign.proofs.Packed.{Within, sign_within, packed_means}
use Rattle.sign.proofs.Readings.{meant}

-- what a call that writes a sign has to know of the memory in which it lies
pub record Lying (m : Meaning) (h : Head) (symbols : Symbols) : Type 0 where
  pub same : meaning_in h symbols ≡ m
  pub prefix_most : h.prefix_count ≤ 32
  pub symbols_most : h.symbol_count ≤ 64
  pub valid : Valid (meaning_in h symbols)

-- of a sign within the limits
pub lying_there : (m : Meaning) → Within m → (h : Head) (symbols : Symbols) → h ≡ head_of m → symbols ≡ symbols_of m → Lying m h symbols
lying_there m w h symbols k a =
    let p : h.prefix_count ≡ length m.prefix = ap (λ k. k.prefix_count) k in
    let n : h.symbol_count ≡ length m.symbols = ap (λ k. k.symbol_count) k in
    let same : meaning_in h symbols ≡ m = (λ i. meaning_in (k i) (a i)) ∙ packed_means Fsw m w in
    record {
      same = same;
      prefix_most = let u = w.prefix in omega arith;
      symbols_most = let u = w.symbols in omega arith;
      valid = rw same w.valid;
    }

module _ (set : Charset) (s : List ℕ) (r : Answer Head Refusal) (symbols : Symbols) (v : ReadInto set s r symbols) where
  module _ (h : Head) (q : r ≡ Ok h) where
    abbrev meaning : Meaning
    meaning = (meant set s r symbols v h q).meaning

    pub lies : Lying meaning h symbols
    lies = let k = meant set s r symbols v h q in lying_there meaning (sign_within set s meaning k.says) h symbols k.head k.holds

    pub transcribed : (o p : List ℕ) (w : Written) (other : Charset) → other ≡ other_set set → Answers o (done (sign_text other (meaning_in h symbols))) w p
        → Answers o (transcription set s) w p
    unfolding transcription
    transcribed o p w other e a =
        let k : done (sign_text other (meaning_in h symbols)) ≡ on_done (sign_text (other_set set)) (sign_of set s) =
        (λ i. done (sign_text (e i) (lies.same i))) ∙ ap (on_done (sign_text (other_set set))) (sym (meant set s r symbols v h q).says) in
        rw (← k) a

  pub transcribed_refused : (e : Refusal) (o : List ℕ) → r ≡ Err e → Answers o (transcription set s) (as_written (Err e)) o
  unfolding transcription
  transcribed_refused e o q = answers_refused o (ap (on_done (sign_text (other_set set))) (was_refused head_of (sign_of set s) r e v.is q))
