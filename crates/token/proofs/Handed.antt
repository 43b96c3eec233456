-- What a function answers where `?` hands a refusal on.
use Prim.Native.Nat.{ℕ}
use mathlib.Core.Path.{◌≡◌, refl, sym, ap, ◌∙◌}
use Rattle.std.specs.Prelude.{Result as Answer, Err}
use Rattle.std.specs.Result.{IsErrAnd}
use Rattle.std.proofs.lemmas.Result.{err_from_is_err_and}
use Rattle.token.specs.declared.refusal.Refusal.{Refusal}
use Rattle.token.specs.Refusal.{number_of, place_of}
use Rattle.token.specs.Result.{Result, refusal, outcome, on_done, and_then}

module _ {B : Type 0} (r : Answer B Refusal) (e : Refusal) (h : IsErrAnd r (λ d. d ≡ e)) where
  pub handed : r ≡ Err e
  handed = let p = err_from_is_err_and r h in p.1 ∙ ap Err p.2

  -- the callee's refusal, with whatever would have followed
  module _ {A : Type 0} (q : Answer A Refusal) (was : q ≡ Err e) (R : Result A) (ensures : outcome q ≡ R) where
    refused_so : R ≡ refusal (number_of e) (place_of e)
    refused_so = sym ensures ∙ ap outcome was

    pub handed_then : (next : A → Result B) → outcome r ≡ and_then R next
    handed_then next = ap outcome handed ∙ sym (ap (λ x. and_then x next) refused_so)

    pub handed_on : (to : A → B) → outcome r ≡ on_done to R
    handed_on to = ap outcome handed ∙ sym (ap (on_done to) refused_so)
