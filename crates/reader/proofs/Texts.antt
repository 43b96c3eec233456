-- From the sign at the start of a text to the whole text: one law for each return.
use Prim.Native.Nat.{ℕ, ◌≤◌}
use mathlib.Core.List.{List}
use mathlib.Core.Path.{◌≡◌, refl, sym, ap, ◌∙◌}
use lib.ListN.{length}
use native.Mathlib.Omega.{arith}
use Rattle.std.specs.Prelude.{Result as Answer, Ok, Err, ⊤}
use Rattle.format.specs.Located.{Located, found, wrong_at, short_here, locate, ended}
use Rattle.format.proofs.At.{got}
use Rattle.format.proofs.Ends.{reading_at}
use Rattle.charset.specs.declared.Charset.{Charset}
use Rattle.charset.specs.Tokens.{tokens}
use Rattle.grammar.specs.declared.Head.{Head}
use Rattle.grammar.specs.declared.Symbols.{Symbols}
use Rattle.grammar.specs.Sign.{Meaning, sign, read_sign}
use Rattle.grammar.proofs.Sign.{sign_lawful}
use Rattle.token.specs.declared.refusal.Refusal.{Refusal}
use Rattle.token.specs.Refusal.{number_of, place_of}
use Rattle.token.specs.Result.{Result, refusal, done, outcome, on_done, of_outcome, of_located, result_at}
use Rattle.token.specs.Ends.{left_over}
use Rattle.token.proofs.Checks.{refusal_done}
use Rattle.token.proofs.Results.{located_done}
use Rattle.token.proofs.Ends.{end_is}
use Rattle.reader.specs.Inner.{head_of, HoldsSign, SignInto, TextInto}
use Rattle.reader.proofs.Counts.{was_refused, was_done}

module _ (set : Charset) (s : List ℕ) (r : Answer (Head × ℕ) Refusal) (symbols : Symbols) (v : SignInto set s r symbols) where
  abbrev size : ℕ
  size = length s

  abbrev there : Located Meaning
  there = locate (sign set) s 0

  abbrev whole : Located Meaning → Result Meaning
  whole l = of_outcome size (ended (tokens set).unit size l)

  text_as : (x : Result Meaning) (ret : Answer Head Refusal) → whole there ≡ x → outcome ret ≡ on_done head_of x → HoldsSign x symbols → TextInto set s ret symbols
  text_as x ret e q h =
      let k : of_outcome size (read_sign set s) ≡ x = ap (of_outcome size) (reading_at (tokens set).unit (sign set) (sign_lawful set) s) ∙ e in
      record { is = rw k q; holds = rw k h }

  refused_go : (l : Located Meaning) (number place : ℕ) → of_located size l ≡ refusal number place → whole l ≡ refusal number place
  refused_go (found m i) number place q = refusal_done number place (sym q)
  refused_go (wrong_at p) number place q = cc
  refused_go short_here number place q = cc

  pub text_refused : (e : Refusal) → r ≡ Err e → TextInto set s (Err e) symbols
  text_refused e q =
      text_as (refusal (number_of e) (place_of e)) (Err e)
      (refused_go there (number_of e) (place_of e) (was_refused (λ p. (head_of p.0, p.1)) (result_at (sign set) s 0) r e v.is q)) refl tt

  -- the sign that was read, and where it ends
  module _ (h : Head) (end : ℕ) (q : r ≡ Ok (h, end)) where
    record Said : Type 0 where
      pub meaning : Meaning
      pub is : there ≡ found meaning end
      pub head : head_of meaning ≡ h
      pub holds : HoldsSign (done meaning) symbols

    said : Said
    said =
        let d = was_done (λ p. (head_of p.0, p.1)) (result_at (sign set) s 0) r (h, end) v.is q in
        record {
          meaning = d.0.0;
          is = located_done size there d.0.0 end (d.1.0 ∙ λ i. done (d.0.0, (d.1.1 i).1));
          head = λ i. (d.1.1 i).0;
          holds = rw d.1.0 at v.holds;
        }

    pub sign_inside : end ≤ length s
    sign_inside = (got (tokens set).unit (sign set) (sign_lawful set) s 0 (omega arith) said.meaning end said.is).room

    -- if nothing follows it, it is the whole text
    module _ (left : Answer ⊤ Refusal) (l : left ≡ left_over set (length s) end) where
      text_end : whole there ≡ on_done (λ _. said.meaning) (outcome left)
      text_end = ap whole said.is ∙ sym (end_is said.meaning set size end sign_inside) ∙ ap (λ x. on_done (λ _. said.meaning) (outcome x)) (sym l)

      pub text_followed : (e : Refusal) → left ≡ Err e → TextInto set s (Err e) symbols
      text_followed e k = text_as (refusal (number_of e) (place_of e)) (Err e) (text_end ∙ ap (λ x. on_done (λ _. said.meaning) (outcome x)) k) refl tt

      pub text_read : (u : ⊤) → left ≡ Ok u → TextInto set s (Ok h) symbols
      text_read u k = text_as (done said.meaning) (Ok h) (text_end ∙ ap (λ x. on_done (λ _. said.meaning) (outcome x)) k) (ap done (sym said.head)) said.holds
