-- The verdict on texts says met exactly when the sign meets the query.
use Prim.Native.Nat.{ℕ, ◌<◌}
use mathlib.Core.Path.{◌≡◌, refl, sym, ap, ◌∙◌}
use mathlib.Core.List.{List}
use mathlib.Core.Bool.{true, false}
use native.Mathlib.Omega.{arith}
use Rattle.format.specs.Format.{Pairwise}
use Rattle.format.specs.Places.{Formed}
use Rattle.charset.specs.declared.Charset.{Charset}
use Rattle.charset.specs.declared.Charset.TheVariants.{Fsw}
use Rattle.grammar.specs.Sign.{Meaning}
use Rattle.token.specs.Result.{Result, refusal, done}
use Rattle.token.specs.Padded.{padded}
use Rattle.reader.specs.Signs.{sign_of}
use Rattle.reader.proofs.Limits.{sign_counted}
use Rattle.sign.specs.OffsetLaws.{ReadAlike}
use Rattle.sign.proofs.OffsetLaws.{one_meaning}
use Rattle.querygrammar.specs.declared.Edition.TheVariants.{First as FirstEdition, Second}
use Rattle.querygrammar.specs.Spelling.{first}
use Rattle.querygrammar.specs.Query.{Query, query}
use Rattle.query.specs.Reading.{Asked, query_asked}
use Rattle.query.proofs.Answers.{query_counted}
use Rattle.query.proofs.Editions.{first_in_second}
use Rattle.matching.specs.Meets.{Serves, Meets, Judgement, unmet, met, verdict_of, is_met, answered}
use Rattle.matching.specs.MeetsLaws.{First}
use Rattle.matching.proofs.Deciding.{clash}
use Rattle.matching.proofs.Rightness.{right_unmet, meets_laws, answered_met}
use Rattle.verdict.specs.Verdict.{verdict_on, verdict_by, verdict_in, Reads, FirstUnmet, VerdictLaws}

-- what an answer says of the judgement
answered_unmet : (j : Judgement) (n : ℕ) → (answered j).met ≡ false → (answered j).unmet ≡ n → j ≡ unmet n
answered_unmet (unmet k) n e q = ap unmet q
answered_unmet (met ws) n e q = clash refl e

was_met : (j : Judgement) → is_met j ≡ true → (ws : List ℕ) × (j ≡ met ws)
was_met (unmet n) e = clash e refl
was_met (met ws) e = (ws, refl)

module _ (set : Charset) (query : Asked) (text : List ℕ) where
  on_reads : (q : Query) (m : Meaning) → Reads set query text q m → verdict_in set query text ≡ answered (verdict_of q m)
  unfolding verdict_in verdict_on
  on_reads q m r = λ i. verdict_by (r.asked i) (r.signed i)

  data Judged : Type 0 where
    refused : 0 < (verdict_in set query text).number → (verdict_in set query text).met ≡ false → Judged
    judged : (q : Query) (m : Meaning) → Reads set query text q m → Judged

  known : Judged
  unfolding verdict_in verdict_on
  known = go (query_asked query) (sign_of set text) refl refl
    where
      go : (a : Result Query) (b : Result Meaning) → query_asked query ≡ a → sign_of set text ≡ b → Judged
      go (refusal n p) b e f = refused (rw e (query_counted query.0 query.1 n p e)) (rw e refl)
      go (done q) (refusal n p) e f = refused (rw (e, f) (sign_counted set text n p f)) (rw (e, f) refl)
      go (done q) (done m) e f = judged q m (record { asked = e; signed = f })

  exactly_to : (verdict_in set query text).met ≡ true → (q : Query) × ((m : Meaning) × (Reads set query text q m × Meets q m))
  exactly_to e = go known
    where
      go : Judged → (q : Query) × ((m : Meaning) × (Reads set query text q m × Meets q m))
      go (refused n f) = clash e f
      go (judged q m r) = (q, (m, (r, (meets_laws q m).right.exactly.0 (sym (answered_met (verdict_of q m)) ∙ sym (ap (λ v. v.met) (on_reads q m r)) ∙ e))))

  exactly_from : (q : Query) × ((m : Meaning) × (Reads set query text q m × Meets q m)) → (verdict_in set query text).met ≡ true
  exactly_from (q, (m, (r, s))) = ap (λ v. v.met) (on_reads q m r) ∙ answered_met (verdict_of q m) ∙ (meets_laws q m).right.exactly.1 s

  unmet_to : (n : ℕ) → ((verdict_in set query text).number ≡ 0) × (((verdict_in set query text).met ≡ false) × ((verdict_in set query text).unmet ≡ n))
      → (q : Query) × ((m : Meaning) × (Reads set query text q m × FirstUnmet q m n))
  unmet_to n e = go known
    where
      go : Judged → (q : Query) × ((m : Meaning) × (Reads set query text q m × FirstUnmet q m n))
      go (refused k f) = let z = e.0 in absurd (omega arith)
      go (judged q m r) =
          let s = on_reads q m r in
          (q, (m, (r, (meets_laws q m).right.first_unmet n (answered_unmet (verdict_of q m) n (sym (ap (λ v. v.met) s) ∙ e.1.0) (sym (ap (λ v. v.unmet) s) ∙ e.1.1)))))

  unmet_from : (n : ℕ) → (q : Query) × ((m : Meaning) × (Reads set query text q m × FirstUnmet q m n))
      → ((verdict_in set query text).number ≡ 0) × (((verdict_in set query text).met ≡ false) × ((verdict_in set query text).unmet ≡ n))
  unmet_from n (q, (m, (r, f))) =
      let s : verdict_in set query text ≡ answered (unmet n) = on_reads q m r ∙ ap answered (sym ((meets_laws q m).only (unmet n) (right_unmet q m n f.0 f.1))) in
      (ap (λ v. v.number) s, (ap (λ v. v.met) s, ap (λ v. v.unmet) s))

  witnessed : (q : Query) (m : Meaning) → Reads set query text q m → Meets q m
      → (ws : List ℕ) × (((verdict_in set query text).witnesses ≡ padded 32 ws) × Pairwise (λ sought w. First (Serves q.variance sought) w m.symbols) q.items ws)
  witnessed q m r s =
      let l = (meets_laws q m).right in
      let w = was_met (verdict_of q m) (l.exactly.1 s) in
      (w.0, (ap (λ v. v.witnesses) (on_reads q m r ∙ ap answered w.1), l.witnesses w.0 w.1))

alike : (set : Charset) (text : List ℕ) (set₂ : Charset) (text₂ : List ℕ) → ReadAlike set text set₂ text₂ → (query : Asked) → verdict_in set query text ≡ verdict_in set₂ query text₂
unfolding verdict_in
alike set text set₂ text₂ a query =
    let k = one_meaning set text set₂ text₂ a in ap (verdict_by (query_asked query)) (k.1.0 ∙ sym k.1.1)

editions : (set : Charset) (asked text : List ℕ) → Formed (query first) asked → verdict_in set (FirstEdition, asked) text ≡ verdict_in set (Second Fsw, asked) text
unfolding verdict_in
editions set asked text f = ap (λ q. verdict_by q (sign_of set text)) (first_in_second asked f)

pub verdict_laws : VerdictLaws
verdict_laws = record {
  exactly = λ set query text. (exactly_to set query text, exactly_from set query text);
  first_unmet = λ set query text n. (unmet_to set query text n, unmet_from set query text n);
  witnesses = witnessed;
  alike = alike;
  editions = editions;
}
