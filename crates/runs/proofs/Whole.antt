-- From what the search and the run answer to the claim: one law for each return.
use Prim.Native.Nat.{ℕ, ◌-◌, ◌≤◌}
use mathlib.Core.Path.{◌≡◌, sym, ap, ◌∙◌}
use mathlib.Core.List.{List, ◌∷◌, map}
use mathlib.Core.Bool.{Bool, true, false, not}
use native.Mathlib.Omega.{arith}
use borrow.Author.Tests.{leb-true, not-true, not-false}
use lib.ListN.{length}
use Rattle.charset.specs.declared.Charset.{Charset}
use Rattle.token.specs.Result.{Result, refusal, done, in_room, left_as, output}
use Rattle.lines.specs.Lines.{lines, ended}
use Rattle.query.specs.Reading.{Asked}
use Rattle.narrowing.specs.Narrowing.{Narrowed, not_narrowed}
use Rattle.narrowing.specs.Run.{Ended, run, total}
use Rattle.narrowing.specs.Form.{asks}
use Rattle.format.proofs.Keeping.{keep_length}
use Rattle.narrowing.proofs.Rising.{up_to_length}
use Rattle.entries.specs.Entries.{entries_of}
use Rattle.searching.specs.Searching.{Searched, searched_as}
use Rattle.dictionary.specs.Search.{found, searched}
use Rattle.dictionary.specs.Narrowing.{test_of, narrowed}
use Rattle.dictionary.proofs.Searches.{searched_from}
use Rattle.runs.specs.Demand3.{Searches, written_by, run_on, meeting}
use Rattle.runs.proofs.Demand3.{written_is, demand3}
use Rattle.runs.specs.Runs.{asking, ended_as, ran_as, ran_on}

module _ (set : Charset) (dict list : List ℕ) (first : Asked) (queries : List ℕ) (b : Bool) (t : b ≡ ended queries) where
  abbrev asked : List Asked
  asked = map asking (lines queries)

  pub unended : not b ≡ true → (r : Narrowed) → r ≡ not_narrowed 2 (length queries) → (r, list) ≡ ran_on set dict list first queries
  unfolding ran_on
  unended k r e = let f : ended queries ≡ false = sym t ∙ not-true b k in rw (e, f)

  module _ (k : not b ≡ false) (o : Searched) (after : List ℕ) (e : o ≡ searched set dict list first) (m : after ≡ output list (found set dict first)) where
    whole : ended queries ≡ true
    whole = sym t ∙ not-false b k

    pub not_searched_lem : (o.number ≡ 0 → ⊥) → (r : Narrowed) → r ≡ not_narrowed o.number o.place → (r, after) ≡ ran_on set dict list first queries
    unfolding ran_on searched output
    not_searched_lem z r f = rw whole (go (in_room (length list) (found set dict first)) e m)
      where
        go : (x : Result (List ℕ)) → o ≡ searched_as (length (lines dict)) x → after ≡ left_as list x → (r, after) ≡ ran_as set dict list (first ∷ asked) x
        go (refusal number place) p q = rw (f, p, q)
        go (done entries) p q = absurd (z (ap (λ o. o.number) p))

    module _ (z : o.number ≡ 0) where
      searches : Searches set dict list first
      searches = ap (λ o. o.number) (sym e) ∙ z

      ran : Ended
      ran = run (narrowed set dict) asked after o.written

      same : ran ≡ run_on set dict list first asked
      unfolding ran
      same = rw (m, e)

      sum : total ran.answers ≡ written_by set dict list first - length (meeting set dict (first ∷ asked))
      sum = ap (λ r. total r.answers) same ∙ omega (arith, demand3.adding set dict list first searches asked)

      -- the search wrote at most 65,535 entries
      few : written_by set dict list first ≤ 65535
      few =
          let k = keep_length (asks (test_of set dict first)) (entries_of dict) in
          omega (arith, written_is set dict first list searches, k, up_to_length (length (lines dict)), leb-true (length (lines dict)) 65535 (searched_from first set dict list searches).0.few)

      pub within : total (run (narrowed set dict) asked after o.written).answers ≤ 65535
      unfolding ran
      within = omega (arith, sum, few)

      pub ended_so : (r : Narrowed) (last : List ℕ) → (r, last) ≡ ended_as (run (narrowed set dict) asked after o.written) → (r, last) ≡ ran_on set dict list first queries
      unfolding ran_on ended_as ran
      ended_so r last f =
          rw (whole, (searched_from first set dict list searches).1, written_is set dict first list searches)
          (f ∙ rw (ap (λ r. r.count) same, demand3.counting set dict list first searches asked, sum, ap (λ r. r.list) same, demand3.ending set dict list first searches asked))
