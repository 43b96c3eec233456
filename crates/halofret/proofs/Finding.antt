-- Where a fetched line lies.
use Prim.Native.Nat.{ℕ, ◌+◌, ◌-◌, ◌≤◌, ◌<◌}
use mathlib.Core.Path.{◌≡◌, refl, ap, ◌∙◌}
use mathlib.Core.List.{List, [], ◌∷◌}
use mathlib.Core.Bool.{Bool, true, false}
use lib.Dec.{leb, ltb}
use lib.ListN.{length}
use borrow.Author.Tests.{le-leb, lt-leb}
use Rattle.token.specs.declared.refusal.Refusal.{Refusal as Reason}
use Rattle.token.specs.Refusal.{number_of, place_of}
use Rattle.token.proofs.Refusals.{counted}
use Rattle.token.specs.Result.{Result, refusal, done, check}
use Rattle.lines.specs.Lines.{lines, ended, few_lines}
use Rattle.fetching.specs.Fetching.{Entry, entry_of, fetching, refusal_as}
use Rattle.fetching.proofs.Fetches.{Accepted}
use Rattle.layout.specs.Dictionaries.{line_numbers, fetched_numbers}

no_place : (b₁ b₂ b₃ b₄ b₅ b₆ : Bool) (e : Entry)
    → (refusal_as (check b₁ 12 0 (check b₂ 12 0 (check b₃ 14 0 (check b₄ 14 0 (check b₅ 16 0 (check b₆ 16 0 (done e)))))))).place ≡ 0
no_place false b₂ b₃ b₄ b₅ b₆ e = refl
no_place true false b₃ b₄ b₅ b₆ e = refl
no_place true true false b₄ b₅ b₆ e = refl
no_place true true true false b₅ b₆ e = refl
no_place true true true true false b₆ e = refl
no_place true true true true true false e = refl
no_place true true true true true true e = refl

module _ (d s : List ℕ) (k : ℕ) where
  -- fetching has no place
  unplaced : (refusal_as (fetching d s k)).place ≡ 0
  unfolding fetching
  unplaced = no_place (ended d) (ended s) (few_lines d) (few_lines s) (ltb 0 k) (leb k (length (lines d) + length (lines s))) (entry_of (length (lines d)) k)

  pub fetch_refused : (e : Reason) → record { number = number_of e; place = place_of e } ≡ refusal_as (fetching d s k)
      → (number_of e ∷ place_of e ∷ 0 ∷ 0 ∷ []) ≡ fetched_numbers d s (fetching d s k)
  fetch_refused e q = (λ i. number_of e ∷ (ap (λ r. r.place) q ∙ unplaced) i ∷ 0 ∷ 0 ∷ []) ∙ go (fetching d s k) q
    where
      go : (f : Result Entry) → record { number = number_of e; place = place_of e } ≡ refusal_as f → (number_of e ∷ 0 ∷ 0 ∷ 0 ∷ []) ≡ fetched_numbers d s f
      go (refusal number place) q = ap (λ r. r.number ∷ 0 ∷ 0 ∷ 0 ∷ []) q
      go (done entry) q = absurd (counted e (ap (λ r. r.number) q))

  module _ (a : Accepted d s k) (n : ℕ) (e : n ≡ length (lines d)) where
    pub fetch_first : k ≤ n → line_numbers 0 d k ≡ fetched_numbers d s (fetching d s k)
    fetch_first h = rw (a.is, ← e, le-leb k n h)

    pub fetch_second : n < k → line_numbers 1 s (k - n) ≡ fetched_numbers d s (fetching d s k)
    fetch_second h = rw (a.is, ← e, lt-leb k n h)
