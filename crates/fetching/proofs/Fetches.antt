-- What fetching comes to in each case, and how it is answered.
use Prim.Native.Nat.{ℕ, ◌+◌, ◌-◌, ◌≤◌, ◌<◌}
use mathlib.Core.Path.{◌≡◌, refl, sym, ap, ◌∙◌}
use mathlib.Core.List.{List, [], ◌++◌}
use mathlib.Core.Bool.{Bool, true, false, true≢false}
use lib.Dec.{leb, ltb}
use lib.ListN.{length, get_or-append}
use lib.Seq.{get_or-append-add}
use native.Mathlib.Omega.{arith}
use native.Mathlib.Nat.{zero-add}
use borrow.Author.Tests.{lt-ltb, le-ltb, le-leb, lt-leb, ltb-true, leb-true, leb-false}
use denote.Ref.{Bor}
use Rattle.std.specs.Prelude.{Result as Answer, Ok, Err}
use Rattle.std.specs.Result.{is_err}
use Rattle.format.specs.Format.{choose}
use Rattle.token.specs.Result.{Result, refusal, done, check}
use Rattle.lines.specs.Lines.{lines, ended, few_lines, line_of, line_start, place_in}
use Rattle.lines.specs.Checked.{check_few, line_count}
use Rattle.token.proofs.Checks.{refusal_done}
use Rattle.token.proofs.Refusals.{counted}
use Rattle.lines.proofs.Counts.{Whole, count_whole}
use Rattle.lines.proofs.Laws.{line_laws}
use Rattle.token.specs.declared.refusal.Refusal.{Refusal as Reason}
use Rattle.fetching.specs.Fetching.{Entry, in_first, in_second, entry_of, fetching, Refusal, refusal_as, as_refusal, fetched_line, fetched_place, FetchLaws}

-- one law for each return of `fetch_refusal`
module _ (d s : List ℕ) (k : ℕ) where
  abbrev rest : Result Entry
  rest = check (ltb 0 k) 16 0 (check (leb k (length (lines d) + length (lines s))) 16 0 (done (entry_of (length (lines d)) k)))

  pub first_unended : ended d ≡ false → fetching d s k ≡ refusal 12 0
  unfolding fetching
  first_unended t = rw t

  pub second_unended : ended d ≡ true → ended s ≡ false → fetching d s k ≡ refusal 12 0
  unfolding fetching
  second_unended t u = rw (t, u)

  module _ (t : ended d ≡ true) (u : ended s ≡ true) where
    opened : fetching d s k ≡ check_few (length (lines d)) (check_few (length (lines s)) rest)
    unfolding fetching
    opened = rw (t, u)

    many : (t : Bool) (n x p : ℕ) (r : Result Entry) → refusal x p ≡ check t 14 0 (done n) → check t 14 0 r ≡ refusal x p
    many true n x p r e = refusal_done x p e
    many false n x p r e = let a : x ≡ 14 = cc in let b : p ≡ 0 = cc in rw (a, b)

    pub first_refused : {x p : ℕ} → refusal x p ≡ line_count d → fetching d s k ≡ refusal x p
    first_refused e = opened ∙ many (few_lines d) (length (lines d)) _ _ _ (e ∙ rw t)

    module _ {n : ℕ} (a : done n ≡ line_count d) where
      firsts : Whole d n
      firsts = count_whole d n (sym a)

      pub second_refused : {x p : ℕ} → refusal x p ≡ line_count s → fetching d s k ≡ refusal x p
      second_refused e = opened ∙ rw (← firsts.lines, le-leb n 65535 firsts.few) (many (few_lines s) (length (lines s)) _ _ _ (e ∙ rw u))

      module _ {m : ℕ} (b : done m ≡ line_count s) where
        seconds : Whole s m
        seconds = count_whole s m (sym b)

        pub few : (n ≤ 65535) × (m ≤ 65535)
        few = (firsts.few, seconds.few)

        asked : fetching d s k ≡ check (ltb 0 k) 16 0 (check (leb k (n + m)) 16 0 (done (entry_of n k)))
        asked = opened ∙ rw (← firsts.lines, le-leb n 65535 firsts.few, ← seconds.lines, le-leb m 65535 seconds.few)

        pub no-entry : k ≡ 0 → fetching d s k ≡ refusal 16 0
        no-entry z = asked ∙ rw (le-ltb 0 k (omega arith))

        module _ (z : k ≡ 0 → ⊥) where
          pub past-entries : n + m < k → fetching d s k ≡ refusal 16 0
          past-entries w = asked ∙ rw (lt-ltb 0 k (omega arith), lt-leb k (n + m) w)

          pub an-entry : k ≤ n + m → fetching d s k ≡ done (entry_of n k)
          an-entry w = asked ∙ rw (lt-ltb 0 k (omega arith), le-leb k (n + m) w)

pub answered : (d s : List ℕ) (k : ℕ) (f : Result Entry) (r : Refusal) → fetching d s k ≡ f → r ≡ refusal_as f → r ≡ refusal_as (fetching d s k)
answered d s k f r e q = q ∙ ap refusal_as (sym e)

-- An accepted number.
pub record Accepted (d s : List ℕ) (k : ℕ) : Type 0 where
  pub whole : ended d ≡ true
  pub low : 1 ≤ k
  pub high : k ≤ length (lines d) + length (lines s)
  pub is : fetching d s k ≡ done (entry_of (length (lines d)) k)

tested : (b₁ b₂ b₃ b₄ b₅ b₆ : Bool) (e : Entry)
    → (refusal_as (check b₁ 12 0 (check b₂ 12 0 (check b₃ 14 0 (check b₄ 14 0 (check b₅ 16 0 (check b₆ 16 0 (done e)))))))).number ≡ 0
    → (b₁ ≡ true) × (b₅ ≡ true) × ((b₆ ≡ true) × (check b₁ 12 0 (check b₂ 12 0 (check b₃ 14 0 (check b₄ 14 0 (check b₅ 16 0 (check b₆ 16 0 (done e)))))) ≡ done e))
tested false b₂ b₃ b₄ b₅ b₆ e z = absurd (omega arith)
tested true false b₃ b₄ b₅ b₆ e z = absurd (omega arith)
tested true true false b₄ b₅ b₆ e z = absurd (omega arith)
tested true true true false b₅ b₆ e z = absurd (omega arith)
tested true true true true false b₆ e z = absurd (omega arith)
tested true true true true true false e z = absurd (omega arith)
tested true true true true true true e z = (refl, refl, (refl, refl))

pub accepted : (d s : List ℕ) (k : ℕ) (r : Refusal) → r ≡ refusal_as (fetching d s k) → r.number ≡ 0 → Accepted d s k
unfolding fetching
accepted d s k r e z =
    let t = tested (ended d) (ended s) (few_lines d) (few_lines s) (ltb 0 k) (leb k (length (lines d) + length (lines s))) (entry_of (length (lines d)) k)
    (sym (ap (λ x. x.number) e) ∙ z) in
    record { whole = t.0; low = ltb-true 0 k t.1; high = leb-true k (length (lines d) + length (lines s)) t.2.0; is = t.2.1 }

pub accepted_by : (d s : List ℕ) (k : ℕ) (r : Answer (Unit {0}) Reason) → as_refusal r ≡ refusal_as (fetching d s k) → is_err r ≡ false → Accepted d s k
accepted_by d s k (Ok nothing) e z = accepted d s k (as_refusal (Ok nothing)) e refl
accepted_by d s k (Err reason) e z = absurd (true≢false z)

-- the part and its place, by what fetching comes to
abbrev pub Part : Bor (List ℕ) → Bor (List ℕ) → List ℕ → ℕ × ℕ → Result Entry → Type 0
Part d s line place f = record { bytes : line ≡ fetched_line d.now s.now f; place : place ≡ fetched_place d s f }

module _ (d s : Bor (List ℕ)) (k : ℕ) where
  no_part : (f : Result Entry) → ((refusal_as f).number ≡ 0 → ⊥) → Part d s [] (d.ref_ptr.0, 0 + d.ref_ptr.1) f
  unfolding fetched_line fetched_place
  no_part (refusal number place) z = record { bytes = refl; place = rw (zero-add d.ref_ptr.1) }
  no_part (done e) z = absurd (z refl)

  pub refused_part : (r : Answer (Unit {0}) Reason) → as_refusal r ≡ refusal_as (fetching d.now s.now k) → is_err r ≡ true
      → Part d s [] (d.ref_ptr.0, 0 + d.ref_ptr.1) (fetching d.now s.now k)
  refused_part (Ok nothing) e z = absurd (true≢false (sym z))
  refused_part (Err reason) e z = no_part (fetching d.now s.now k) (λ q. counted reason (ap (λ x. x.number) e ∙ q))

  module _ (a : Accepted d.now s.now k) (n : ℕ) (e : n ≡ length (lines d.now)) where
    pub first_part : k ≤ n → Part d s (line_of d.now k) (place_in d (line_start d.now k)) (fetching d.now s.now k)
    unfolding fetched_line fetched_place
    first_part h = rw (a.is, ← e, le-leb k n h) (record { bytes = refl; place = refl })

    pub second_part : n < k → Part d s (line_of s.now (k - n)) (place_in s (line_start s.now (k - n))) (fetching d.now s.now k)
    unfolding fetched_line fetched_place
    second_part h = rw (a.is, ← e, lt-leb k n h) (record { bytes = refl; place = refl })

-- the line of the two dictionaries as one
module _ (d s : List ℕ) (k : ℕ) (a : Accepted d s k) where
  line_first : k ≤ length (lines d) → line_of d k ≡ line_of (d ++ s) k
  unfolding line_of
  line_first h =
      let low = a.low in
      rw (line_laws.joined d s a.whole, get_or-append (lines d) (lines s) [] (k - 1) (omega arith))

  line_second : length (lines d) < k → line_of s (k - length (lines d)) ≡ line_of (d ++ s) k
  unfolding line_of
  line_second h =
      let q : k - 1 ≡ length (lines d) + (k - length (lines d) - 1) = omega arith in
      rw (line_laws.joined d s a.whole, q, get_or-append-add)

  fetched_line_lem : (t : Bool) → leb k (length (lines d)) ≡ t → fetched_line d s (done (choose t (in_first k) (in_second (k - length (lines d))))) ≡ line_of (d ++ s) k
  unfolding fetched_line
  fetched_line_lem true e = line_first (leb-true k (length (lines d)) e)
  fetched_line_lem false e = line_second (leb-false k (length (lines d)) e)

pub fetch_laws : FetchLaws
fetch_laws = record {
  runs_on = λ d s k entry e.
      let a = accepted d s k (refusal_as (fetching d s k)) refl (ap (λ f. (refusal_as f).number) e) in
      ap (fetched_line d s) (sym e ∙ a.is) ∙ fetched_line_lem d s k a (leb k (length (lines d))) refl;
}
