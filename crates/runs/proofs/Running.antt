-- The loop of a run: what is left to do, at its start, after a call and at its end.
use Prim.Native.Nat.{ℕ, ◌+◌, ◌-◌, ◌≤◌, ◌<◌}
use mathlib.Core.Path.{◌≡◌, refl, sym, ap, ◌∙◌}
use mathlib.Core.List.{List, [], ◌∷◌, map}
use native.Mathlib.Omega.{arith}
use native.Mathlib.Numerals.{add-one}
use native.Mathlib.Nat.{zero-add}
use borrow.Author.Tests.{ne_eqb}
use lib.ListN.{length, get_or, take, drop, drop_of_length-le}
use lib.Seq.{drop-cons}
use Rattle.lines.specs.Lines.{lines, first_line, line_of, line_start}
use Rattle.lines.proofs.Starts.{Line, start_first, line_at}
use Rattle.query.specs.Reading.{Asked}
use Rattle.std.specs.Prelude.{Err}
use Rattle.token.specs.declared.refusal.Refusal.{Refusal}
use Rattle.token.specs.Refusal.{number_of}
use Rattle.token.proofs.Refusals.{counted}
use Rattle.narrowing.specs.Narrowing.{Narrowed, as_narrowed}
use Rattle.narrowing.specs.Run.{Ended, next_count, answering, run, total}
use Rattle.runs.specs.Runs.{asking, ended_as}

-- a refused call leaves the count as it was
pub next_refused : (n : ℕ) (e : Refusal) → next_count n (as_narrowed (Err e)) ≡ n
unfolding next_count
next_refused n e = rw (ne_eqb (number_of e) 0 (counted e))

-- after `made` calls the rest of the run ends as the whole does
pub record Running (call : List ℕ → ℕ → Asked → Narrowed × List ℕ) (queries : List ℕ) (whole : Ended) (list : List ℕ) (kept dropped start made : ℕ) : Type 0 where
  pub most : made ≤ length (lines queries)
  pub here : start ≡ line_start queries (made + 1)
  pub memory : (run call (map asking (drop made (lines queries))) list kept).list ≡ whole.list
  pub count : (run call (map asking (drop made (lines queries))) list kept).count ≡ whole.count
  pub sum : dropped + total (run call (map asking (drop made (lines queries))) list kept).answers ≡ total whole.answers

pub running_start : (call : List ℕ → ℕ → Asked → Narrowed × List ℕ) (queries list : List ℕ) (n : ℕ)
    → Running call queries (run call (map asking (lines queries)) list n) list n 0 0 0
running_start call queries list n =
    record {
      most = omega arith;
      here = start_first queries ∙ ap (line_start queries) (sym (zero-add 1));
      memory = refl;
      count = refl;
      sum = zero-add _;
    }

module _ {call : List ℕ → ℕ → Asked → Narrowed × List ℕ} {queries : List ℕ} {whole : Ended} {list : List ℕ} {kept dropped start made : ℕ}
    (r : Running call queries whole list kept dropped start made) where
  pub running_end : length (lines queries) ≤ made → (record { number = 0; place = 0; kept = kept; dropped = dropped }, list) ≡ ended_as whole
  unfolding run total ended_as
  running_end h =
      let none : drop made (lines queries) ≡ [] = drop_of_length-le (lines queries) h in
      let l : list ≡ whole.list = ap (λ qs. (run call (map asking qs) list kept).list) (sym none) ∙ r.memory in
      let k : kept ≡ whole.count = ap (λ qs. (run call (map asking qs) list kept).count) (sym none) ∙ r.count in
      let d : dropped ≡ total whole.answers = omega (arith, r.sum, ap (λ qs. total (run call (map asking qs) list kept).answers) none) in
      rw (l, k, d)

  module _ (h : made < length (lines queries)) where
    pub running_line : (end : ℕ) → end ≡ start + length (first_line (drop start queries)) → Line queries (made + 1) start end
    running_line end e = line_at queries (made + 1) start (omega arith) (omega arith) r.here end e

    module _ {end : ℕ} (l : Line queries (made + 1) start end) (answer : Narrowed) (after : List ℕ)
        {asked : Asked} (q : asked ≡ asking (take (end - start) (drop start queries))) (c : (answer, after) ≡ call list kept asked) where
      abbrev later : Ended
      later = run call (map asking (drop (made + 1) (lines queries))) after (next_count kept answer)

      one : (answer, after) ≡ call list kept (asking (get_or (lines queries) made []))
      unfolding line_of
      one =
          let s : made + 1 - 1 ≡ made = omega arith in
          c ∙ ap (call list kept) q ∙ ap (λ line. call list kept (asking line)) (l.part ∙ ap (λ i. get_or (lines queries) i []) s)

      turn : run call (map asking (drop made (lines queries))) list kept ≡ answering answer later
      unfolding run
      turn =
          let cons : drop made (lines queries) ≡ get_or (lines queries) made [] ∷ drop (made + 1) (lines queries) = rw add-one (drop-cons (lines queries) made [] h) in
          ap (λ qs. run call (map asking qs) list kept) cons
          ∙ ap (λ p. answering p.0 (run call (map asking (drop (made + 1) (lines queries))) p.1 (next_count kept p.0))) (sym one)

      sums : answer.dropped + total later.answers ≡ total (run call (map asking (drop made (lines queries))) list kept).answers
      unfolding total
      sums = sym (ap (λ e. total e.answers) turn)

      pub running-dropped : dropped + answer.dropped ≤ total whole.answers
      running-dropped = omega (arith, r.sum, sums)

      pub running_more : Running call queries whole after (next_count kept answer) (dropped + answer.dropped) (end + 1) (made + 1)
      running_more =
          record {
            most = omega arith;
            here = l.next;
            memory = sym (ap (λ x. x.list) turn) ∙ r.memory;
            count = sym (ap (λ x. x.count) turn) ∙ r.count;
            sum = omega (arith, r.sum, sums);
          }
