-- Demand 3 over any form of call and anything that fills the list.
use Prim.Native.Nat.{ℕ, ◌+◌, ◌-◌, ◌≤◌}
use mathlib.Core.Path.{◌≡◌, refl, sym, ap, ◌∙◌}
use mathlib.Core.List.Perm
use mathlib.Core.List.{List, [], ◌∷◌, ◌++◌, map, Perm}
use mathlib.Core.Bool.{Bool, true, and-eq-true_iff}
use native.Mathlib.Omega.{arith}
use borrow.Author.Tests.{ne_eqb}
use lib.ListN.{length, drop, replicate}
use lib.Seq.{drop-append_seam}
use Rattle.format.specs.Format.{every, keep}
use Rattle.format.proofs.Lists.{every_perm}
use Rattle.token.specs.Result.{Result, refusal, done, on_done}
use Rattle.token.proofs.Checks.{Counted}
use Rattle.narrowing.specs.Narrowing.{Narrowed, answer_of, filled, list_after}
use Rattle.narrowing.specs.Run.{Ended, next_count, answering, run, total, refusal_of, told}
use Rattle.narrowing.proofs.Filled.{filled_whole, filled_again}
use Rattle.format.proofs.Keeping.{keep_length, keep_keep, keep_every}
use Rattle.narrowing.specs.Form.{asks, left, plain, Form, FormLaws, Fill, FillLaws, run_on, left_of, Demand3}

-- ONE CALL, by a query on good entries k
abbrev answer : Result (ℕ → Bool) → List ℕ → Narrowed
answer query k = answer_of (length k) (on_done (λ test. keep test k) query)

-- with zeros after the entries up to n
call_filled : (query : Result (ℕ → Bool)) (n : ℕ) (k rest : List ℕ) → length k ≤ n
    → plain query k (replicate (n - length k) 0 ++ rest) ≡ (answer query k, filled n (keep (asks query) k) rest)
unfolding list_after filled
call_filled (refusal number place) n k rest h = rw (keep_every k)
call_filled (done test) n k rest h =
    rw (drop-append_seam k (replicate (n - length k) 0 ++ rest))
    (ap (λ l. (answer (done test) k, l)) (filled_again n k (keep test k) rest (keep_length test k) h))

call_count : (query : Result (ℕ → Bool)) (k : List ℕ) → Counted query → next_count (length k) (answer query k) ≡ length (keep (asks query) k)
unfolding next_count answer_of
call_count (refusal number place) k h = rw (ne_eqb number 0 (λ e. omega (arith, h number place refl)), keep_every k)
call_count (done test) k h = refl

call_adds : (query : Result (ℕ → Bool)) (k : List ℕ) → (answer query k).dropped + length (keep (asks query) k) ≡ length k
unfolding answer_of
call_adds (refusal number place) k = rw (keep_every k) (omega arith)
call_adds (done test) k = omega (arith, keep_length test k)

call_told : (query : Result (ℕ → Bool)) (k : List ℕ) → ((answer query k).number, (answer query k).place) ≡ refusal_of query
unfolding answer_of refusal_of
call_told (refusal number place) k = refl
call_told (done test) k = refl

-- A RUN, by queries that say these things
module _ {Q : Type 0} (says : Q → Result (ℕ → Bool)) where
  trace : List Q → List ℕ → List Narrowed
  trace [] k = []
  trace (q ∷ qs) k = answer (says q) k ∷ trace qs (keep (asks (says q)) k)

  abbrev ended_so : ℕ → List ℕ → List Q → List ℕ → Ended
  ended_so n rest qs k = record { list = filled n (left says k qs) rest; count = length (left says k qs); answers = trace qs k }

  left_none : (k : List ℕ) → left says k [] ≡ k
  unfolding left
  left_none k = keep_every k

  pub left_more : (q : Q) (qs : List Q) (k : List ℕ) → left says (keep (asks (says q)) k) qs ≡ left says k (q ∷ qs)
  unfolding left
  left_more q qs k = keep_keep (asks (says q)) (λ e. every (λ q. asks (says q) e) qs) k

  left_perm : (k : List ℕ) (qs qs' : List Q) → Perm qs qs' → left says k qs ≡ left says k qs'
  unfolding left
  left_perm k qs qs' p = λ i. keep (λ e. every_perm (λ q. asks (says q) e) qs qs' p i) k

  trace_adds : (qs : List Q) (k : List ℕ) → total (trace qs k) + length (left says k qs) ≡ length k
  unfolding trace total
  trace_adds [] k = rw (left_none k) (omega arith)
  trace_adds (q ∷ qs) k =
      rw (← left_more q qs k) (omega (arith, trace_adds qs (keep (asks (says q)) k), call_adds (says q) k))

  trace_told : (qs : List Q) (k : List ℕ) → told qs (trace qs k) ≡ map (λ q. (q, refusal_of (says q))) qs
  unfolding trace told
  trace_told [] k = refl
  trace_told (q ∷ qs) k = rw (call_told (says q) k, trace_told qs (keep (asks (says q)) k))

-- A FORM THAT KEEPS THE LAWS
module _ {B Q : Type 0} (f : Form B Q) (l : FormLaws f) (b : B) where
  module _ (n : ℕ) (rest : List ℕ) where
    whole : (qs : List Q) (k : List ℕ) → every (f.fits b) qs ≡ true → f.Good b k → length k ≤ n
        → run (f.call b) qs (filled n k rest) (length k) ≡ ended_so (f.says b) n rest qs k
    unfolding run trace filled
    whole [] k a g h = rw (left_none (f.says b) k)
    whole (q ∷ qs) k a g h =
        let w = (and-eq-true_iff (f.fits b q) (every (f.fits b) qs)).0 a in
        let s = f.says b q in
        let j = keep (asks s) k in
        ap (λ r. answering r.0 (run (f.call b) qs r.1 (next_count (length k) r.0)))
        (l.step b q k (replicate (n - length k) 0 ++ rest) w.0 g ∙ call_filled s n k rest h)
        ∙ ap (λ m. answering (answer s k) (run (f.call b) qs (filled n j rest) m)) (call_count s k (l.counted b q))
        ∙ ap (answering (answer s k)) (whole qs j w.1 (l.keeps b (asks s) k g) (omega (arith, keep_length (asks s) k)))
        ∙ ap (λ m. record { list = filled n m rest; count = length m; answers = trace (f.says b) (q ∷ qs) k }) (left_more (f.says b) q qs k)

  pub left_good : (qs : List Q) (k : List ℕ) → f.Good b k → f.Good b (left (f.says b) k qs)
  unfolding left
  left_good qs k g = l.keeps b (λ e. every (λ q. asks (f.says b q) e) qs) k g

-- THE CLAIM
module _ {T B Q : Type 0} (book_of : T → B) (rewritten : T → T) (f : Form B Q) (l : FormLaws f) (g : Fill B) (m : FillLaws book_of rewritten f.Good g) where
  module _ (b : B) (list : List ℕ) (fills : g.Fills b list) where
    abbrev k : List ℕ
    k = g.start b

    abbrev rest : List ℕ
    rest = drop (length k) list

    module _ (qs : List Q) (fit : every (f.fits b) qs ≡ true) where
      ends : run_on f g b list qs ≡ ended_so (f.says b) (length k) rest qs k
      ends =
          rw (m.memory b list fills, m.count b list fills, ← filled_whole k rest)
          (whole f l b (length k) rest qs k fit (m.good b list fills) (omega arith))

      adds : total (run_on f g b list qs).answers + length (left_of f g b qs) ≡ length k
      adds = rw ends (trace_adds (f.says b) qs k)

      tells : told qs (run_on f g b list qs).answers ≡ map (λ q. (q, refusal_of (f.says b q))) qs
      tells = rw ends (trace_told (f.says b) qs k)

    reorders : (qs reordered : List Q) → every (f.fits b) qs ≡ true → Perm qs reordered
        → ((run_on f g b list qs).list ≡ (run_on f g b list reordered).list)
        × (total (run_on f g b list qs).answers ≡ total (run_on f g b list reordered).answers)
        × Perm (told qs (run_on f g b list qs).answers) (told reordered (run_on f g b list reordered).answers)
    reorders qs reordered fit p =
        let fit' = sym (every_perm (f.fits b) qs reordered p) ∙ fit in
        let e = left_perm (f.says b) k qs reordered p in (
          rw (ends qs fit, ends reordered fit', e),
          omega (arith, adds qs fit, adds reordered fit', ap length e),
          rw (tells qs fit, tells reordered fit') (Perm.map (λ q. (q, refusal_of (f.says b q))) p),
        )

  pub demand3 : Demand3 book_of rewritten f g
  demand3 =
      record {
        ending = λ b list fills qs fit. ap (λ r. r.list) (ends b list fills qs fit);
        good = λ b list fills qs. left_good f l b qs (g.start b) (m.good b list fills);
        counting = λ b list fills qs fit. ap (λ r. r.count) (ends b list fills qs fit);
        adding = adds;
        telling = tells;
        reordering = reorders;
        rewriting = λ t list fills qs. let e = m.same t list fills in rw e (fills, refl, refl);
      }
