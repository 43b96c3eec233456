-- What merging the two parts of a list has done so far.
use Prim.Native.Nat.{ℕ, ◌+◌, ◌≤◌, ◌<◌}
use mathlib.Core.Path.{◌≡◌, refl, sym, ap, ◌∙◌}
use mathlib.Core.List.{List, [], ◌∷◌, ◌++◌, append_assoc}
use mathlib.Core.Bool.{Bool, true, false}
use native.Mathlib.Numerals.{add-one}
use native.Mathlib.Omega.{arith}
use lib.ListN.{length, get_or, take, drop, set, length-set, length-take, length-append, drop_of_length-le, take-append-drop}
use lib.Seq.{drop-cons, get_or-take, take-suc-set, drop-set-lt, take_at}
use Rattle.arrangement.specs.Arranged.{merge}
use Rattle.arrangement.proofs.Merging.{merge_none, merge_over, merge_right, merge_left}

-- the first k are merged; of the first part, which waits in the spare list, i are taken, and the second goes on at j
pub record Merging (before : ℕ → ℕ → Bool) (list₀ : List ℕ) (h : ℕ) (spare list : List ℕ) (i j k : ℕ) : Type 0 where
  pub taken : i ≤ h
  pub second : h ≤ j
  pub most : j ≤ length list
  pub count : i + j ≡ h + k
  pub room : h ≤ length spare
  pub long : length list ≡ length list₀
  pub whole : take k list ++ merge before (drop i (take h spare)) (drop j list) ≡ merge before (take h list₀) (drop h list₀)

pub merging_start : (before : ℕ → ℕ → Bool) (list : List ℕ) (h : ℕ) (spare₀ spare : List ℕ) → h ≤ length list → h ≤ length spare₀
    → spare ≡ take h list ++ drop h spare₀ → Merging before list h spare list 0 h 0
merging_start before list h spare₀ spare l s e =
    let w : take h spare ≡ take h list = ap (take h) e ∙ take_at (take h list) (drop h spare₀) h (length-take h list ∙ omega arith) in
    record {
      taken = omega arith;
      second = omega arith;
      most = l;
      count = omega arith;
      room = omega (arith, ap length e, length-append (take h list) (drop h spare₀), length-take h list);
      long = refl;
      whole = ap (λ p. merge before p (drop h list)) w;
    }

snoc : (l : List ℕ) (a : ℕ) (m : List ℕ) → (l ++ (a ∷ [])) ++ m ≡ l ++ (a ∷ m)
snoc l a m = append_assoc l (a ∷ []) m

module _ {before : ℕ → ℕ → Bool} {list₀ : List ℕ} {h : ℕ} {spare list : List ℕ} {i j k : ℕ} (c : Merging before list₀ h spare list i j k) where
  next : i < h → drop i (take h spare) ≡ get_or spare i 0 ∷ drop (i + 1) (take h spare)
  next t =
      let m : i < length (take h spare) = omega (arith, length-take h spare, c.room) in
      rw (add-one i, drop-cons (take h spare) i 0 m, get_or-take h spare i 0 t)

  other : j < length list → drop j list ≡ get_or list j 0 ∷ drop (j + 1) list
  other t = rw (add-one j, drop-cons list j 0 t)

  -- the first of the second part is taken
  pub takes_second : i < h → j < length list → before (get_or list j 0) (get_or spare i 0) ≡ true
      → Merging before list₀ h spare (set list k (get_or list j 0)) i (j + 1) (k + 1)
  takes_second t u b =
      let x = get_or list j 0 in
      let below : k < j + 1 = omega (arith, c.count, c.taken) in
      let inside : k < length list = omega (arith, c.count, c.taken) in
      record {
        taken = c.taken;
        second = omega (arith, c.second);
        most = omega (arith, length-set list k x);
        count = omega (arith, c.count);
        room = c.room;
        long = length-set list k x ∙ c.long;
        whole =
            rw (add-one k, take-suc-set list k x inside, drop-set-lt (j + 1) list k x below, snoc (take k list) x)
            (sym (ap (λ m. take k list ++ m)
            (ap (λ p. merge before p (drop j list)) (next t)
            ∙ ap (merge before _) (other u)
            ∙ merge_right before _ _ _ _ b
            ∙ ap (λ p. x ∷ merge before p (drop (j + 1) list)) (sym (next t))))
            ∙ c.whole);
      }

  -- the first of the first part is taken, where that of the second does not come before it
  takes_first : i < h → merge before (get_or spare i 0 ∷ drop (i + 1) (take h spare)) (drop j list) ≡ get_or spare i 0 ∷ merge before (drop (i + 1) (take h spare)) (drop j list)
      → Merging before list₀ h spare (set list k (get_or spare i 0)) (i + 1) j (k + 1)
  takes_first t e =
      let x = get_or spare i 0 in
      let below : k < j = omega (arith, c.count) in
      let inside : k < length list = omega (arith, c.count, c.most) in
      record {
        taken = omega arith;
        second = c.second;
        most = omega (arith, length-set list k x, c.most);
        count = omega (arith, c.count);
        room = c.room;
        long = length-set list k x ∙ c.long;
        whole =
            rw (add-one k, take-suc-set list k x inside, drop-set-lt j list k x below, snoc (take k list) x)
            (sym (ap (λ m. take k list ++ m) (ap (λ p. merge before p (drop j list)) (next t) ∙ e)) ∙ c.whole);
      }

  pub takes_waiting : i < h → j < length list → before (get_or list j 0) (get_or spare i 0) ≡ false
      → Merging before list₀ h spare (set list k (get_or spare i 0)) (i + 1) j (k + 1)
  takes_waiting t u b = takes_first t (rw (other u) (merge_left before _ _ _ _ b))

  pub takes_last : i < h → length list ≤ j → Merging before list₀ h spare (set list k (get_or spare i 0)) (i + 1) j (k + 1)
  takes_last t u = takes_first t (rw (drop_of_length-le list u) (merge_over before _ _))

  pub merging_end : h ≤ i → list ≡ merge before (take h list₀) (drop h list₀)
  merging_end t =
      let m : length (take h spare) ≤ i = omega (arith, length-take h spare) in
      let e : j ≡ k = omega (arith, c.count, c.taken) in
      sym (take-append-drop k list) ∙ ap (λ x. take k list ++ drop x list) (sym e)
      ∙ sym (ap (λ p. take k list ++ merge before p (drop j list)) (drop_of_length-le (take h spare) m) ∙ rw (merge_none before))
      ∙ c.whole
