-- From a sign that was read into memory to what words say of it: one law for each return.
use Prim.Native.Nat.{ℕ, ◌≤◌}
use mathlib.Core.Path.{◌≡◌, refl, sym, ap, ◌∙◌}
use mathlib.Core.List.{List}
use mathlib.Core.Bool.{Bool}
use Rattle.std.specs.Prelude.{Result as Answer, Ok, Err}
use Rattle.charset.specs.declared.Charset.{Charset}
use Rattle.grammar.specs.declared.Head.{Head}
use Rattle.grammar.specs.declared.Symbols.{Symbols}
use Rattle.token.specs.declared.refusal.Refusal.{Refusal}
use Rattle.token.specs.Refusal.{number_of, place_of}
use Rattle.token.specs.Result.{refusal, done, outcome}
use Rattle.writer.specs.Arrays.{meaning_in}
use Rattle.reader.specs.Signs.{sign_of}
use Rattle.reader.specs.Inner.{head_of, ReadInto}
use Rattle.reader.proofs.Counts.{was_refused}
use Rattle.sign.proofs.Readings.{meant}
use Rattle.sign.proofs.Transcribing.{lies}
use Rattle.matching.specs.declared.Verdict.{Verdict}
use Rattle.matching.specs.Meets.{Judgement, unmet, met, is_met, told, answered, as_verdict}
use Rattle.matching.specs.Inner.{verdict_in_words}
use Rattle.verdict.specs.Inner.{verdict_on_words, met_on_words}

told_answered : (j : Judgement) → as_verdict (Ok (told j)) ≡ answered j
told_answered (unmet n) = refl
told_answered (met ws) = refl

module _ (set : Charset) (text : List ℕ) (r : Answer Head Refusal) (symbols : Symbols) (v : ReadInto set text r symbols) (words : List ℕ) where
  module _ (e : Refusal) (was : r ≡ Err e) where
    says_refused : sign_of set text ≡ refusal (number_of e) (place_of e)
    says_refused = was_refused head_of (sign_of set text) r e v.is was

    pub text_refused : as_verdict (Err e) ≡ verdict_on_words words (sign_of set text)
    unfolding verdict_on_words
    text_refused = ap (verdict_on_words words) (sym says_refused)

    pub meeting_refused : outcome {A = Bool} (Err e) ≡ met_on_words words (sign_of set text)
    meeting_refused = ap (met_on_words words) (sym says_refused)

  module _ (h : Head) (was : r ≡ Ok h) where
    pub sign_few : (h.prefix_count ≤ 32) × (h.symbol_count ≤ 64)
    sign_few = let l = lies set text r symbols v h was in (l.prefix_most, l.symbols_most)

    says : sign_of set text ≡ done (meaning_in h symbols)
    says = (meant set text r symbols v h was).says ∙ ap done (sym (lies set text r symbols v h was).same)

    pub text_judged : (a : Verdict) → a ≡ told (verdict_in_words words (meaning_in h symbols)) → as_verdict (Ok a) ≡ verdict_on_words words (sign_of set text)
    unfolding verdict_on_words
    text_judged a e = ap (λ a. as_verdict (Ok a)) e ∙ told_answered (verdict_in_words words (meaning_in h symbols)) ∙ ap (verdict_on_words words) (sym says)

    pub meeting_judged : (b : Bool) → b ≡ is_met (verdict_in_words words (meaning_in h symbols)) → outcome (Ok b) ≡ met_on_words words (sign_of set text)
    meeting_judged b e = ap done e ∙ ap (met_on_words words) (sym says)
