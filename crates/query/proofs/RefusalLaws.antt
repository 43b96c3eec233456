-- Which number `read` answers of a text, and where.
use Prim.Native.Nat.{ℕ, ◌≤◌, ◌<◌}
use mathlib.Core.Path.{◌≡◌, refl, sym, ap, ◌∙◌}
use mathlib.Core.List.{List}
use mathlib.Core.Logic.Iff
use mathlib.Core.Logic.{◌⊎◌, inl, inr, ◌↔◌}
use mathlib.Core.Option.{Option, none, some}
use lib.Dec.{lit<, lit≤}
use lib.ListN.{length}
use native.Mathlib.Omega.{arith}
use Rattle.format.specs.Places.{Outcome, fine, refused, ends_short, Unfinished}
use Rattle.charset.specs.declared.Charset.TheVariants.{Fsw, Swu}
use Rattle.token.specs.Refusal.{text_wrong, text_short, prefix_long, signbox_long, range_reversed, alternatives_long}
use Rattle.token.specs.Result.{Result, refusal, done, and_then, of_outcome}
use Rattle.token.proofs.Checks.{refusal_done}
use Rattle.token.proofs.Exactly.{text_wrong_lem, text_short_lem, said_exactly}
use Rattle.querygrammar.specs.declared.Edition.{Edition}
use Rattle.querygrammar.specs.declared.Edition.TheVariants.{First, Second}
use Rattle.querygrammar.specs.Spelling.{spelling}
use Rattle.querygrammar.specs.Query.{Query, query}
use Rattle.querygrammar.specs.QueryLaws.{Text, read_query}
use Rattle.querygrammar.proofs.QueryLaws.{query_laws}
use Rattle.querypart.specs.Spots.{first_reversed}
use Rattle.query.specs.Reading.{spots_of, in_order_of, limited, query_of, reading_of}
use Rattle.query.specs.ReadingLaws.{meant, PrefixFits, SignboxFits, AlternativesFit, InLimits, FirstReversed}
use Rattle.query.specs.RefusalLaws.{Answers, Says, WrongAt, RefusalLaws}
use Rattle.query.proofs.Spots.{spots_stand}
use Rattle.query.proofs.Reversed.{first_reversed_lem}
use Rattle.query.proofs.Limits.{limited_case, limited_never, limited_3, limited_4, limited_22, limited_5}
use Rattle.query.proofs.Accepted.{query_read, query_accepts}
use Rattle.query.proofs.Answers.{query_counted}

-- WHAT A RESULT ANSWERS

refusal_answered : (r : Result Query) (number place : ℕ) → 0 < number → (((reading_of r).number ≡ number) × ((reading_of r).place ≡ place)) ↔ (r ≡ refusal number place)
unfolding reading_of
refusal_answered (refusal n p) number place h = (λ e i. refusal (e.0 i) (e.1 i), λ e. (cc, cc))
refusal_answered (done q) number place h = (λ e. absurd (omega (arith, e.0)), λ e. refusal_done number place (sym e))

-- 0 to 5, or 22
abbrev Given : Result Query → Type 0
Given r = ((reading_of r).number ≤ range_reversed) ⊎ ((reading_of r).number ≡ alternatives_long)

limited_given : (q : Query) (o : Option ℕ) → Given (limited q o)
unfolding reading_of
limited_given q o = limited_case q o Given (inl (lit≤ tt)) (inl (lit≤ tt)) (inr refl) (go o)
  where
    go : (o : Option ℕ) → Given (in_order_of o q)
    go none = inl (lit≤ tt)
    go (some at) = inl (lit≤ tt)

-- THE TEXT

says_exactly : (e : Edition) (text : List ℕ) (t : Text e) → (read_query e text ≡ fine t) ↔ Says e text t
says_exactly e text t = ((query_laws e).writes text t, λ s. ap (read_query e) s.1 ∙ (query_laws e).reads t s.0)

wrong_exactly : (e : Edition) (text : List ℕ) (p : ℕ) → (read_query e text ≡ refused p) ↔ WrongAt e text p
wrong_exactly First = (query_laws First).places.wrong
wrong_exactly (Second Fsw) = (query_laws (Second Fsw)).places.wrong
wrong_exactly (Second Swu) = (query_laws (Second Swu)).places.wrong

short_exactly : (e : Edition) (text : List ℕ) → (read_query e text ≡ ends_short) ↔ Unfinished (query (spelling e)) text
short_exactly First = (query_laws First).places.short
short_exactly (Second Fsw) = (query_laws (Second Fsw)).places.short
short_exactly (Second Swu) = (query_laws (Second Swu)).places.short

-- ALL OF IT

module _ (e : Edition) (text : List ℕ) where
  abbrev first : Text e → Option ℕ
  first t = first_reversed (spots_of (spelling e) t)

  abbrev tests : Text e → Result Query
  tests t = limited (meant e t) (first t)

  -- the text is well-formed, and the tests of what it says give the number
  module _ (number p : ℕ) (Some-number : 0 < number) where
    answered : Answers e text number p ↔ (and_then (of_outcome (length text) (read_query e text)) tests ≡ refusal number p)
    unfolding query_of
    answered = refusal_answered (query_of e text) number p Some-number

    tested : {P : Text e → Type 0} → text_short < number → ((t : Text e) → Says e text t → (tests t ≡ refusal number p) ↔ P t) → Answers e text number p ↔ ((t : Text e) × (Says e text t × P t))
    tested {P = P} h k = Iff.trans answered (said_exactly (length text) (read_query e text) tests (Says e text) P number p h (says_exactly e text) k)

  wrong : (p : ℕ) → Answers e text text_wrong p ↔ WrongAt e text p
  wrong p =
      Iff.trans (answered text_wrong p (lit< tt))
      (Iff.trans (text_wrong_lem (length text) (read_query e text) tests (λ t. limited_never (meant e t) (first t) text_wrong (λ e. omega arith) (λ e. omega arith) (λ e. omega arith) (λ e. omega arith)) p)
      (wrong_exactly e text p))

  short : (p : ℕ) → Answers e text text_short p ↔ (Unfinished (query (spelling e)) text × (p ≡ length text))
  short p =
      Iff.trans (answered text_short p (lit< tt))
      (Iff.trans (text_short_lem (length text) (read_query e text) tests (λ t. limited_never (meant e t) (first t) text_short (λ e. omega arith) (λ e. omega arith) (λ e. omega arith) (λ e. omega arith)) p)
      (Iff.and (short_exactly e text) Iff.rfl))

  refuses_prefix : (p : ℕ) → Answers e text prefix_long p ↔ ((t : Text e) × Says e text t × (PrefixFits (meant e t) → ⊥) × (p ≡ 0))
  refuses_prefix p =
      let k = tested prefix_long p (lit< tt) (lit< tt) (λ t s. limited_3 (meant e t) (first t) p) in
      (λ a. (let x = k.0 a in (x.0, x.1.0, x.1.1.0, x.1.1.1)), λ x. k.1 (x.0, (x.1, (x.2, x.3))))

  refuses_signbox : (p : ℕ) → Answers e text signbox_long p ↔ ((t : Text e) × Says e text t × PrefixFits (meant e t) × (SignboxFits (meant e t) → ⊥) × (p ≡ 0))
  refuses_signbox p =
      let k = tested signbox_long p (lit< tt) (lit< tt) (λ t s. limited_4 (meant e t) (first t) p) in
      (λ a. (let x = k.0 a in (x.0, x.1.0, x.1.1.0, x.1.1.1.0, x.1.1.1.1)), λ x. k.1 (x.0, (x.1, (x.2, (x.3, x.4)))))

  refuses_alternatives : (p : ℕ)
      → Answers e text alternatives_long p ↔ ((t : Text e) × Says e text t × PrefixFits (meant e t) × SignboxFits (meant e t) × (AlternativesFit (meant e t) → ⊥) × (p ≡ 0))
  refuses_alternatives p =
      let k = tested alternatives_long p (lit< tt) (lit< tt) (λ t s. limited_22 (meant e t) (first t) p) in
      (λ a. (let x = k.0 a in (x.0, x.1.0, x.1.1.0, x.1.1.1.0, x.1.1.1.1.0, x.1.1.1.1.1)), λ x. k.1 (x.0, (x.1, (x.2, (x.3, (x.4, x.5))))))

  range_reversed_lem : (p : ℕ)
      → Answers e text range_reversed p ↔ ((t : Text e) × Says e text t × PrefixFits (meant e t) × SignboxFits (meant e t) × AlternativesFit (meant e t) × FirstReversed e text t p)
  range_reversed_lem p =
      let k =
      tested range_reversed p (lit< tt) (lit< tt)
      (λ t s. limited_5 (meant e t) (first t) p (first_reversed_lem e text p t (spots_stand (spelling e) text t s.0 s.1))) in
      (λ a. (let x = k.0 a in (x.0, x.1.0, x.1.1.0, x.1.1.1.0, x.1.1.1.1.0, x.1.1.1.1.1)), λ x. k.1 (x.0, (x.1, (x.2, (x.3, (x.4, x.5))))))

  accepted : (p : ℕ) → Answers e text 0 p ↔ ((t : Text e) × Says e text t × InLimits (meant e t) × (p ≡ 0))
  unfolding reading_of
  accepted p = (λ x. go (query_of e text) refl x, λ x. let z = ap (query_of e) x.1.1 ∙ query_accepts e x.0 x.1.0 x.2 in rw (z, x.3) (refl, refl))
    where
      go : (r : Result Query) → query_of e text ≡ r → ((reading_of r).number ≡ 0) × ((reading_of r).place ≡ p) → (t : Text e) × Says e text t × InLimits (meant e t) × (p ≡ 0)
      go (refusal n q) z x = absurd (omega (arith, query_counted e text n q z, x.0))
      go (done q) z x = let k = query_read e text q z in (k.says, (says_exactly e text k.says).0 k.is, k.limits, sym x.1)

  numbers : Given (query_of e text)
  unfolding query_of reading_of
  numbers = go (read_query e text)
    where
      go : (o : Outcome (Text e)) → Given (and_then (of_outcome (length text) o) tests)
      go (fine t) = limited_given (meant e t) (first t)
      go (refused p) = inl (lit≤ tt)
      go ends_short = inl (lit≤ tt)

pub refusal_laws : (e : Edition) → RefusalLaws e
refusal_laws e = record {
  wrong = wrong e;
  short = short e;
  refuses_prefix = refuses_prefix e;
  refuses_signbox = refuses_signbox e;
  refuses_alternatives = refuses_alternatives e;
  reversed = range_reversed_lem e;
  accepted = accepted e;
  numbers = numbers e;
}
