-- What each loop over the list has done so far, at its start, after a turn and at its end.
use Prim.Native.Nat.{ℕ, zero, suc, ◌+◌, ◌≤◌, ◌<◌}
use mathlib.Core.Path.{◌≡◌, refl, sym, ap, ◌∙◌}
use mathlib.Core.List.{List, [], ◌∷◌, ◌++◌, append-nil}
use mathlib.Core.Bool.{Bool, true, false}
use native.Mathlib.Numerals.{add-one}
use native.Mathlib.Omega.{arith}
use lib.ListN.{length, get_or, take, drop, set, length-set, length-append}
use lib.Seq.{drop-cons, get_or-take, take-suc, length-take-le}
use Rattle.format.specs.Format.{All, keep}
use Rattle.narrowing.specs.Narrowing.{entries_from, up_to, filled}
use Rattle.format.proofs.Keeping.{keep_more}
use Rattle.narrowing.proofs.Filled.{filled_none, filled_read, filled_zero, filled_more, up_to_more}

-- 1 to e are written in front
pub record Numbering (list₀ : List ℕ) (n : ℕ) (list : List ℕ) (e : ℕ) : Type 0 where
  pub most : e ≤ n
  pub long : length list ≡ length list₀
  pub memory : list ≡ up_to e ++ drop e list₀

pub numbering_start : (list : List ℕ) (n : ℕ) → Numbering list n list 0
unfolding entries_from
numbering_start list n = record { most = omega arith; long = refl; memory = refl }

module _ {list₀ list : List ℕ} {n e : ℕ} (c : Numbering list₀ n list e) where
  pub numbering_more : n ≤ length list₀ → e < n → Numbering list₀ n (set list e (e + 1)) (e + 1)
  numbering_more h m = record {
    most = omega arith;
    long = length-set list e (e + 1) ∙ c.long;
    memory = ap (λ l. set l e (e + 1)) c.memory ∙ up_to_more list₀ e (omega arith);
  }

-- one of a list
all_at : (P : ℕ → Type 0) (l : List ℕ) → All P l → (i : ℕ) → i < length l → P (get_or l i 0)
all_at P [] a i h = absurd (omega arith)
all_at P (e ∷ l) a zero h = a.0
all_at P (e ∷ l) a (suc i) h = all_at P l a.1 i (omega arith)

within : (P : ℕ → Type 0) (list : List ℕ) (n : ℕ) → n ≤ length list → All P (take n list) → (i : ℕ) → i < n → P (get_or list i 0)
within P list n room a i h = rw (← get_or-take n list i 0 h) (all_at P (take n list) a i (omega (arith, length-take-le n list room)))

-- one of the first n, that was read as r
pub record InFront (list : List ℕ) (n i r : ℕ) : Type 0 where
  pub below : i < n
  pub is : r ≡ get_or list i 0

pub in_front : (list : List ℕ) (n i r : ℕ) → n ≤ length list → i < length (take n list) → r ≡ get_or (take n list) i 0 → InFront list n i r
in_front list n i r room h e =
    let b : i < n = omega (arith, length-take-le n list room) in
    record { below = b; is = e ∙ get_or-take n list i 0 b }

module _ (test : ℕ → Bool) (list : List ℕ) (i : ℕ) (h : i < length list) where
  keep_one : test (get_or list i 0) ≡ true → keep test (take (i + 1) list) ≡ keep test (take i list) ++ (get_or list i 0 ∷ [])
  keep_one t = rw (add-one, take-suc list i 0 h, keep_more test (take i list) (get_or list i 0), t)

  keep_none : test (get_or list i 0) ≡ false → keep test (take (i + 1) list) ≡ keep test (take i list)
  keep_none t = rw (add-one, take-suc list i 0 h, keep_more test (take i list) (get_or list i 0), t) (append-nil _)

-- of the first i entries those that pass the test, k of them, stand in front with zeros after them
pub record Compacting (list₀ : List ℕ) (n : ℕ) (test : ℕ → Bool) (list : List ℕ) (k i : ℕ) : Type 0 where
  pub most : i ≤ n
  pub least : k ≤ i
  pub long : length list ≡ length list₀
  pub count : k ≡ length (keep test (take i list₀))
  pub memory : list ≡ filled i (keep test (take i list₀)) (drop i list₀)

pub compacting_start : (list : List ℕ) (n : ℕ) (test : ℕ → Bool) → Compacting list n test list 0 0
unfolding keep
compacting_start list n test = record { most = omega arith; least = omega arith; long = refl; count = refl; memory = sym (filled_none list) }

module _ {list₀ : List ℕ} {test : ℕ → Bool} {list : List ℕ} {n k i : ℕ} (c : Compacting list₀ n test list k i) where
  module _ (h : i < n) (room : n ≤ length list₀) where
    kept : List ℕ
    kept = keep test (take i list₀)

    few : length kept ≤ i
    unfolding kept
    few = omega (arith, c.least, c.count)

    here : list ≡ filled i kept (get_or list₀ i 0 ∷ drop (i + 1) list₀)
    unfolding kept
    here = c.memory ∙ rw (add-one, drop-cons list₀ i 0 (omega arith))

    -- what stands at i is not yet changed
    pub compacting_read : get_or list i 0 ≡ get_or list₀ i 0
    compacting_read = ap (λ l. get_or l i 0) here ∙ filled_read i kept few (get_or list₀ i 0) (drop (i + 1) list₀)

    pub compacting_inside : (P : ℕ → Type 0) → All P (take n list₀) → P (get_or list i 0)
    compacting_inside P a = rw compacting_read (within P list₀ n room a i h)

    cleared : set list i 0 ≡ filled (i + 1) kept (drop (i + 1) list₀)
    cleared = ap (λ l. set l i 0) here ∙ filled_zero i kept few (get_or list₀ i 0) (drop (i + 1) list₀)

    pub compacting_kept : test (get_or list i 0) ≡ true → Compacting list₀ n test (set (set list i 0) k (get_or list i 0)) (k + 1) (i + 1)
    unfolding kept
    compacting_kept f =
        let one = keep_one test list₀ i (omega arith) (ap test (sym compacting_read) ∙ f) in
        record {
          most = omega arith;
          least = omega (arith, c.least);
          long = length-set (set list i 0) k (get_or list i 0) ∙ length-set list i 0 ∙ c.long;
          count = omega (arith, c.count, ap length one, length-append kept (get_or list₀ i 0 ∷ []));
          memory = rw (cleared, compacting_read, c.count, filled_more i kept few (get_or list₀ i 0) (drop (i + 1) list₀), one);
        }

    pub compacting_dropped : test (get_or list i 0) ≡ false → Compacting list₀ n test (set list i 0) k (i + 1)
    unfolding kept
    compacting_dropped f =
        let none = keep_none test list₀ i (omega arith) (ap test (sym compacting_read) ∙ f) in
        record {
          most = omega arith;
          least = omega (arith, c.least);
          long = length-set list i 0 ∙ c.long;
          count = c.count ∙ ap length (sym none);
          memory = cleared ∙ ap (λ l. filled (i + 1) l (drop (i + 1) list₀)) (sym none);
        }
