-- `narrowed_by` in each of its cases.
use Prim.Native.Nat.{ℕ, ◌-◌}
use mathlib.Core.Path.{◌≡◌, refl, ap}
use mathlib.Core.List.{List}
use mathlib.Core.Bool.{Bool, true, false, ◌&&◌}
use borrow.Author.Tests.{ne_eqb}
use lib.Dec.{leb}
use lib.ListN.{length, take, drop}
use Rattle.format.specs.Format.{keep}
use Rattle.token.specs.Result.{Result, refusal, done, check}
use Rattle.token.specs.Refusal.{list_wrong, line_wrong}
use Rattle.narrowing.specs.Narrowing.{listed, first_bad, check_lines, kept_by, not_narrowed, answer_of, filled, list_after, narrowing, narrowed_by}

module _ (valid : ℕ → List ℕ → Bool) (readable : ℕ → Bool) (list : List ℕ) (n : ℕ) where
  pub query_refused : {query : Result (ℕ → Bool)} {number place : ℕ} (count : Result ℕ) → query ≡ refusal number place
      → (not_narrowed number place, list) ≡ narrowed_by query count valid readable list n
  unfolding narrowed_by kept_by answer_of list_after
  query_refused count e = rw e

  module _ {query : Result (ℕ → Bool)} {test : ℕ → Bool} (q : query ≡ done test) {count : Result ℕ} where
    pub dictionary_refused : {number place : ℕ} → count ≡ refusal number place → (not_narrowed number place, list) ≡ narrowed_by query count valid readable list n
    unfolding narrowed_by kept_by answer_of list_after
    dictionary_refused d = rw (q, d)

    module _ {lines : ℕ} (d : count ≡ done lines) where
      pub list-refused : listed (valid lines) list n ≡ false → (not_narrowed list_wrong 0, list) ≡ narrowed_by query count valid readable list n
      unfolding narrowed_by kept_by answer_of list_after
      list-refused h = rw (q, d, h)

      pub line_refused : (e : ℕ) → listed (valid lines) list n ≡ true → e ≡ first_bad readable (take n list) → (e ≡ 0 → ⊥)
          → (not_narrowed line_wrong e, list) ≡ narrowed_by query count valid readable list n
      unfolding narrowed_by kept_by answer_of list_after
      line_refused e h b z = rw (q, d, h, ← b, ne_eqb e 0 z)

      pub call-done : (k : ℕ) (after : List ℕ) → listed (valid lines) list n ≡ true → first_bad readable (take n list) ≡ 0
          → k ≡ length (keep test (take n list)) → after ≡ filled n (keep test (take n list)) (drop n list)
          → (record { number = 0; place = 0; kept = k; dropped = n - k }, after) ≡ narrowed_by query count valid readable list n
      unfolding narrowed_by kept_by answer_of list_after
      call-done k after h b ek ea = rw (q, d, h, b, ek, ea)

-- tests that agree on the entries of the list give the same call
pub narrowed_alike : (valid other : ℕ → List ℕ → Bool) (readable : ℕ → Bool) (list : List ℕ) (n : ℕ) (query : Result (ℕ → Bool)) (count : Result ℕ)
    → ((lines : ℕ) → count ≡ done lines → valid lines (take n list) ≡ other lines (take n list))
    → narrowed_by query count valid readable list n ≡ narrowed_by query count other readable list n
unfolding narrowed_by kept_by listed
narrowed_alike valid other readable list n (refusal number place) count agree = refl
narrowed_alike valid other readable list n (done test) (refusal number place) agree = refl
narrowed_alike valid other readable list n (done test) (done lines) agree =
    ap (λ b. narrowing list n (check (leb n (length list) && b) list_wrong 0 (check_lines readable (take n list) (done (keep test (take n list)))))) (agree lines refl)
