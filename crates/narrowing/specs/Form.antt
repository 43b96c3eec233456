-- Demand 3 (document 01, "The dictionary and its list") over any form of narrowing call and anything that fills the list before a run.
-- B is what a dictionary reads as, T its text, Q a query with all that its call takes beside the list.
use Rattle.std.specs.Prelude.{ℕ, ◌+◌, ◌<◌, ◌≡◌, Bool, true, length, drop}
use mathlib.Core.List.{List, ◌++◌, map, Perm}
use Rattle.format.specs.Format.{every, keep}
use Rattle.token.specs.Result.{Result, refusal, done, on_done}
use Rattle.narrowing.specs.Narrowing.{Narrowed, filled, narrowing}
use Rattle.narrowing.specs.Run.{Ended, run, total, refusal_of, told}

-- what a query asks of an entry: nothing where it is refused
abbrev pub asks : Result (ℕ → Bool) → ℕ → Bool
asks (refusal number place) e = true
asks (done test) e = test e

-- the entries of k that meet all the accepted queries, in the order they stood
unfoldable pub left : {Q : Type 0} → (Q → Result (ℕ → Bool)) → List ℕ → List Q → List ℕ
left says k qs = keep (λ e. every (λ q. asks (says q) e) qs) k

-- a call on a list memory that holds the entries k and then `after`, in which nothing but the query is refused
abbrev pub plain : Result (ℕ → Bool) → List ℕ → List ℕ → Narrowed × List ℕ
plain query k after = narrowing (k ++ after) (length k) (on_done (λ test. keep test k) query)

-- A FORM OF CALL
pub record Form (B Q : Type 0) : Type 1 where
  -- the refusal of a query, or its test of an entry
  pub says : B → Q → Result (ℕ → Bool)
  -- whether a query may stand in a run: what it brings beside its text agrees with the dictionary
  pub fits : B → Q → Bool
  -- the lists on which such a query is refused for nothing but its text
  pub Good : B → List ℕ → Type 0
  -- the answer and the list memory after the call, from a list memory, a count and a query
  pub call : B → List ℕ → ℕ → Q → Narrowed × List ℕ

pub record FormLaws {B Q : Type 0} (f : Form B Q) : Type 0 where
  -- no refusal has the number 0
  pub counted : (b : B) (q : Q) (number place : ℕ) → f.says b q ≡ refusal number place → 0 < number
  -- what is kept of a good list is good
  pub keeps : (b : B) (test : ℕ → Bool) (k : List ℕ) → f.Good b k → f.Good b (keep test k)
  -- on a good list only the query is refused
  pub step : (b : B) (q : Q) (k after : List ℕ) → f.fits b q ≡ true → f.Good b k → f.call b (k ++ after) (length k) q ≡ plain (f.says b q) k after

-- WHAT FILLS THE LIST
pub record Fill (B : Type 0) : Type 1 where
  -- it is accepted with this list memory
  pub Fills : B → List ℕ → Type 0
  -- the list memory after it, and the count that it answers
  pub memory : B → List ℕ → List ℕ
  pub count : B → List ℕ → ℕ
  -- the entries that it writes
  pub start : B → List ℕ

pub record FillLaws {T B : Type 0} (book_of : T → B) (rewritten : T → T) (Good : B → List ℕ → Type 0) (g : Fill B) : Type 0 where
  pub good : (b : B) (list : List ℕ) → g.Fills b list → Good b (g.start b)
  pub memory : (b : B) (list : List ℕ) → g.Fills b list → g.memory b list ≡ g.start b ++ drop (length (g.start b)) list
  pub count : (b : B) (list : List ℕ) → g.Fills b list → g.count b list ≡ length (g.start b)
  -- where it is accepted, the rewritten dictionary reads as the same
  pub same : (t : T) (list : List ℕ) → g.Fills (book_of t) list → book_of (rewritten t) ≡ book_of t

-- THE CLAIM
-- the run: the first call takes the list memory and the count that filling left
abbrev pub run_on : {B Q : Type 0} → Form B Q → Fill B → B → List ℕ → List Q → Ended
run_on f g b list qs = run (f.call b) qs (g.memory b list) (g.count b list)

-- the entries that meet all the accepted queries, from the dictionary and the queries alone
abbrev pub left_of : {B Q : Type 0} → Form B Q → Fill B → B → List Q → List ℕ
left_of f g b qs = left (f.says b) (g.start b) qs

-- For every dictionary that fills a list memory, and all queries in order that fit it:
pub record Demand3 {T B Q : Type 0} (book_of : T → B) (rewritten : T → T) (f : Form B Q) (g : Fill B) : Type 0 where
  -- the list memory after the run: the entries left, zeros to the count at the start, then what was there before
  pub ending : (b : B) (list : List ℕ) → g.Fills b list → (qs : List Q) → every (f.fits b) qs ≡ true
      → (run_on f g b list qs).list ≡ filled (length (g.start b)) (left_of f g b qs) (drop (length (g.start b)) list)
  -- they are a good list: rising, or each once
  pub good : (b : B) (list : List ℕ) → g.Fills b list → (qs : List Q) → f.Good b (left_of f g b qs)
  -- their number is the count for a next call
  pub counting : (b : B) (list : List ℕ) → g.Fills b list → (qs : List Q) → every (f.fits b) qs ≡ true
      → (run_on f g b list qs).count ≡ length (left_of f g b qs)
  -- the dropped counts and the entries left add up to the count at the start
  pub adding : (b : B) (list : List ℕ) → g.Fills b list → (qs : List Q) → every (f.fits b) qs ≡ true
      → total (run_on f g b list qs).answers + length (left_of f g b qs) ≡ length (g.start b)
  -- each call answers the number and place of its query's own refusal, and nothing else is refused
  pub telling : (b : B) (list : List ℕ) → g.Fills b list → (qs : List Q) → every (f.fits b) qs ≡ true
      → told qs (run_on f g b list qs).answers ≡ map (λ (q : Q). (q, refusal_of (f.says b q))) qs
  -- every reordering leaves the same list memory and the same total, and tells each query the same number and place
  pub reordering : (b : B) (list : List ℕ) → g.Fills b list → (qs reordered : List Q) → every (f.fits b) qs ≡ true → Perm qs reordered
      → ((run_on f g b list qs).list ≡ (run_on f g b list reordered).list)
      × (total (run_on f g b list qs).answers ≡ total (run_on f g b list reordered).answers)
      × Perm (told qs (run_on f g b list qs).answers) (told reordered (run_on f g b list reordered).answers)
  -- the rewritten dictionary fills equal list memory, the same queries fit it, and in the same order they give the same answer at
  -- every call and the same list memory
  pub rewriting : (t : T) (list : List ℕ) → g.Fills (book_of t) list → (qs : List Q)
      → g.Fills (book_of (rewritten t)) list
      × (every (f.fits (book_of (rewritten t))) qs ≡ every (f.fits (book_of t)) qs)
      × (run_on f g (book_of (rewritten t)) list qs ≡ run_on f g (book_of t) list qs)
