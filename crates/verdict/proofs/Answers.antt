-- From a query that was read into words and what they say of a text to the verdict: one law for each return.
use Prim.Native.Nat.{ℕ}
use mathlib.Core.Path.{◌≡◌, refl, sym, ap, ◌∙◌}
use mathlib.Core.List.{List}
use native.Mathlib.Omega.{arith}
use Rattle.std.specs.Prelude.{Result as Answer, Ok, Err, ⊤}
use Rattle.charset.specs.declared.Charset.{Charset}
use Rattle.token.specs.declared.refusal.Refusal.{Refusal}
use Rattle.token.specs.Result.{Result, refusal, done, outcome}
use Rattle.token.specs.Padded.{padded}
use Rattle.reader.specs.Signs.{sign_of}
use Rattle.grammar.specs.Sign.{Meaning}
use Rattle.querygrammar.specs.declared.Edition.{Edition}
use Rattle.querygrammar.specs.Query.{Query}
use Rattle.queryitem.specs.Words.{words_of}
use Rattle.query.specs.Reading.{query_of}
use Rattle.query.specs.Inner.{passed, ReadInto}
use Rattle.query.proofs.Answers.{read_failed, read_done}
use Rattle.query.proofs.Accepted.{query_accepted}
use Rattle.matching.specs.declared.Verdict.{Verdict}
use Rattle.matching.specs.Meets.{answered, as_verdict}
use Rattle.matching.specs.Inner.{Laid}
use Rattle.matching.proofs.WordsLaws.{words_laws}
use Rattle.verdict.specs.Verdict.{verdict_on, verdict_by, verdict_in}
use Rattle.verdict.specs.Inner.{verdict_on_words, Fits}

pub query_refused : (e : Edition) (s : List ℕ) (r : Answer ⊤ Refusal) → outcome r ≡ passed (query_of e s) → (d : Refusal) → r ≡ Err d → (set : Charset) (text : List ℕ)
    → as_verdict (Err d) ≡ verdict_in set (e, s) text
unfolding verdict_in
query_refused e s r is d was set text = ap (λ q. verdict_by q (sign_of set text)) (sym (read_failed e s r is d was))

-- the words of a query that was accepted say of a sign what it says
pub verdict_same : (e : Edition) (s : List ℕ) (n : ℕ) → Fits e s n → (q : Query) → query_of e s ≡ done q → (sign : Result Meaning)
    → verdict_on_words (padded n (words_of q)) sign ≡ verdict_on q sign
unfolding verdict_on_words verdict_on
verdict_same e s n fits q x (refusal number p) = refl
verdict_same e s n fits q x (done m) = let a = query_accepted e s q x in ap answered (words_laws.verdict q n (omega (arith, fits q x)) a.valid m)

module _ (e : Edition) (s : List ℕ) (n : ℕ) (r : Answer ⊤ Refusal) (words : List ℕ) (v : ReadInto e s n r words) (fits : Fits e s n) where
  module _ (u : ⊤) (was : r ≡ Ok u) where
    -- the words of a query that was accepted are laid as judging asks, and their verdict is its own
    pub query_laid : Laid words
    query_laid =
        let k = read_done e s n r words v fits u was in
        let a = query_accepted e s k.query k.is in
        rw k.holds (words_laws.laid k.query n a.prefix_most a.items_most (omega (arith, fits k.query k.is)))

    pub query_judged : (set : Charset) (text : List ℕ) (a : Answer Verdict Refusal) → as_verdict a ≡ verdict_on_words words (sign_of set text)
        → as_verdict a ≡ verdict_in set (e, s) text
    unfolding verdict_in
    query_judged set text a y =
        let k = read_done e s n r words v fits u was in
        y ∙ ap (λ w. verdict_on_words w (sign_of set text)) k.holds ∙ verdict_same e s n fits k.query k.is (sign_of set text) ∙ ap (λ q. verdict_by q (sign_of set text)) (sym k.is)
