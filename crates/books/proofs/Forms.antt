-- The laws of the plain form of call.
use Prim.Native.Nat.{ℕ, ◌≤◌}
use mathlib.Core.Path.{◌≡◌, refl, ◌∙◌}
use mathlib.Core.List.{List, ◌++◌}
use mathlib.Core.Bool.{Bool, true}
use native.Mathlib.Omega.{arith}
use lib.ListN.{length, length-append}
use lib.Seq.{take-append_seam}
use Rattle.format.specs.Format.{keep}
use Rattle.grammar.specs.Sign.{Meaning}
use Rattle.token.specs.Result.{Result, refusal, done}
use Rattle.token.proofs.Checks.{Counted, on_done_counted}
use Rattle.narrowing.specs.Narrowing.{listed, kept_by, narrowed_by}
use Rattle.narrowing.specs.Form.{plain, FormLaws}
use Rattle.format.proofs.Keeping.{keep_all}
use Rattle.narrowing.proofs.Rising.{listed_is, none_bad}
use Rattle.books.specs.Book.{Book, count_in, readable_in}
use Rattle.books.specs.Forms.{asked, GoodBy, form_by}

-- on a good list only the query is refused
module _ (valid : ℕ → List ℕ → Bool) (b : Book) (k after : List ℕ) (g : GoodBy valid b k) where
  pub is_listed : listed (valid b.count) (k ++ after) (length k) ≡ true
  is_listed =
      let room : length k ≤ length (k ++ after) = omega (arith, length-append k after) in
      listed_is (valid b.count) (k ++ after) (length k) room ∙ rw (take-append_seam k after) g.passes

  pub plain_step : (query : Result (ℕ → Bool)) → narrowed_by query (count_in b) valid (readable_in b) (k ++ after) (length k) ≡ plain query k after
  unfolding narrowed_by kept_by
  plain_step (refusal number place) = refl
  plain_step (done test) = rw (g.fine, is_listed, take-append_seam k after, none_bad (readable_in b) k g.reads)

module _ {Q A : Type 0} (valid : ℕ → List ℕ → Bool)
    (keeps : (count : ℕ) (test : ℕ → Bool) (k : List ℕ) → valid count k ≡ true → valid count (keep test k) ≡ true)
    (read : Q → Result A) (met : A → Result Meaning → Bool) (counted : (q : Q) → Counted (read q)) where
  pub form_laws : FormLaws (form_by valid read met)
  form_laws =
      record {
        counted = λ b q. on_done_counted (λ a e. met a (b.sign e)) (read q) (counted q);
        keeps = λ b test k g.
            record { fine = g.fine; passes = keeps b.count test k g.passes; reads = keep_all (λ e. readable_in b e ≡ true) test k g.reads };
        step = λ b q k after fit g. plain_step valid b k after g (asked read met b q);
      }
