-- What a query as text asks of an entry, once it is read into lent words.
use Prim.Native.Nat.{ℕ}
use mathlib.Core.Path.{◌≡◌, sym, ap, ◌∙◌}
use mathlib.Core.List.{List}
use Rattle.std.specs.Prelude.{Result as Answer, Ok, Err, ⊤}
use Rattle.charset.specs.declared.Charset.{Charset}
use Rattle.token.specs.declared.refusal.Refusal.{Refusal}
use Rattle.token.specs.Refusal.{number_of, place_of}
use Rattle.token.specs.Result.{refusal, done, on_done}
use Rattle.reader.specs.Signs.{sign_of}
use Rattle.querygrammar.specs.declared.Edition.{Edition}
use Rattle.query.specs.Inner.{ReadInto}
use Rattle.query.proofs.Answers.{all_fit, read_failed, read_done}
use Rattle.queryitem.specs.Words.{word_count}
use Rattle.verdict.specs.Inner.{verdict_on_words}
use Rattle.verdict.proofs.Answers.{verdict_same}
use Rattle.lines.specs.Lines.{line_of}
use Rattle.entries.specs.Judging.{meets, meets_words}
use Rattle.dictionary.specs.Narrowing.{test_of}

module _ {e : Edition} {s : List ℕ} {r : Answer ⊤ Refusal} {words : List ℕ} (v : ReadInto e s word_count r words) (set : Charset) (dict : List ℕ) where
  pub asked_refused : {d : Refusal} → r ≡ Err d → test_of set dict (e, s) ≡ refusal (number_of d) (place_of d)
  asked_refused {d} was = ap (on_done (meets set dict)) (read_failed e s r v.is d was)

  pub asked_done : {u : ⊤} → r ≡ Ok u → test_of set dict (e, s) ≡ done (meets_words set dict words)
  asked_done {u} was =
      let k = read_done e s word_count r words v (all_fit e s) u was in
      let same : meets_words set dict words ≡ meets set dict k.query =
      λ i d. ((ap (λ w. verdict_on_words w (sign_of set (line_of dict d))) k.holds ∙ verdict_same e s word_count (all_fit e s) k.query k.is (sign_of set (line_of dict d))) i).met in
      ap (on_done (meets set dict)) k.is ∙ ap done (sym same)
