-- Laws of rising lists, of lists that pass a test, of 1 to n, and of the first bad line.
use Prim.Native.Nat.{ℕ, zero, suc, ◌+◌, ◌-◌, ◌≤◌, ◌<◌}
use mathlib.Core.Path.{◌≡◌, refl, ap, ◌∙◌}
use mathlib.Core.List.{List, [], ◌∷◌, ◌++◌}
use mathlib.Core.Bool.{Bool, true, false, ◌&&◌, and-false, and-eq-true_iff}
use native.Mathlib.Omega.{arith}
use borrow.Author.Tests.{ltb-true, leb-true, lt-ltb, le-ltb, le-leb, lt-leb}
use lib.Dec.{ltb, leb}
use lib.ListN.{length, take}
use native.Mathlib.Nat.{add-zero, zero-add, sub-zero}
use native.Mathlib.Numerals.{add-one}
use Rattle.format.specs.Format.{choose, All, keep}
use Rattle.narrowing.specs.Narrowing.{entries_from, up_to, rising_over, rising, listed, first_bad}

module _ (last count e : ℕ) (entries : List ℕ) where
  pub rising_on : last < e → e ≤ count → rising_over last count (e ∷ entries) ≡ rising_over e count entries
  unfolding rising_over
  rising_on h m = simp (lt-ltb _ _ h, le-leb _ _ m)

  pub rising_low : e ≤ last → rising_over last count (e ∷ entries) ≡ false
  unfolding rising_over
  rising_low h = simp (le-ltb _ _ h)

  pub rising_high : count < e → rising_over last count (e ∷ entries) ≡ false
  unfolding rising_over
  rising_high h = simp (lt-leb _ _ h, and-false)

  pub rising_parts : rising_over last count (e ∷ entries) ≡ true → (last < e) × (e ≤ count) × (rising_over e count entries ≡ true)
  unfolding rising_over
  rising_parts h =
      let a = (and-eq-true_iff (ltb last e) (leb e count && rising_over e count entries)).0 h in
      let b = (and-eq-true_iff (leb e count) (rising_over e count entries)).0 a.1 in
      (ltb-true _ _ a.0, leb-true _ _ b.0, b.1)

pub rising_end : (last count : ℕ) → rising_over last count [] ≡ true
unfolding rising_over
rising_end last count = refl

rising_lower : (low last count : ℕ) (entries : List ℕ) → low ≤ last → rising_over last count entries ≡ true → rising_over low count entries ≡ true
rising_lower low last count [] h r = rising_end low count
rising_lower low last count (e ∷ entries) h r =
    let p = rising_parts last count e entries r in
    rising_on low count e entries (omega (arith, p.0)) p.1 ∙ p.2

-- what is kept of a rising list rises
pub rising_keep : (test : ℕ → Bool) (last count : ℕ) (entries : List ℕ) → rising_over last count entries ≡ true → rising_over last count (keep test entries) ≡ true
unfolding keep
rising_keep test last count [] r = r
rising_keep test last count (e ∷ entries) r =
    let p = rising_parts last count e entries r in
    go (test e) p.0 p.1 (rising_keep test e count entries p.2)
  where
    go : (t : Bool) → last < e → e ≤ count → rising_over e count (keep test entries) ≡ true → rising_over last count (choose t (e ∷ keep test entries) (keep test entries)) ≡ true
    go true a b h = rising_on last count e (keep test entries) a b ∙ h
    go false a b h = rising_lower last e count (keep test entries) (omega arith) h

-- the entries of a rising list are 1 to count
rising_within_over : (low last count : ℕ) (entries : List ℕ) → low ≤ last → rising_over last count entries ≡ true → All (λ e. (low < e) × (e ≤ count)) entries
rising_within_over low last count [] h r = tt
rising_within_over low last count (e ∷ entries) h r =
    let p = rising_parts last count e entries r in
    ((omega (arith, p.0), p.1), rising_within_over low e count entries (omega (arith, p.0)) p.2)

pub rising_within : (count : ℕ) (entries : List ℕ) → rising count entries ≡ true → All (λ e. (0 < e) × (e ≤ count)) entries
rising_within count entries r = rising_within_over 0 0 count entries (omega arith) r

-- a list that is refused as 11, and one that is not
module _ (valid : List ℕ → Bool) (list : List ℕ) (n : ℕ) where
  pub listed_short : length list < n → listed valid list n ≡ false
  unfolding listed
  listed_short h = rw (lt-leb _ _ h)

  pub listed_is : n ≤ length list → listed valid list n ≡ valid (take n list)
  unfolding listed
  listed_is h = rw (le-leb _ _ h)

  pub listed_room : listed valid list n ≡ true → n ≤ length list
  unfolding listed
  listed_room h = leb-true _ _ ((and-eq-true_iff (leb n (length list)) (valid (take n list))).0 h).0

  pub listed_valid : listed valid list n ≡ true → valid (take n list) ≡ true
  unfolding listed
  listed_valid h = ((and-eq-true_iff (leb n (length list)) (valid (take n list))).0 h).1

pub entries_length : (k n : ℕ) → length (entries_from k n) ≡ n
unfolding entries_from
entries_length k zero = refl
entries_length k (suc n) = ap suc (entries_length (suc k) n)

pub up_to_length : (n : ℕ) → length (up_to n) ≡ n
up_to_length n = entries_length 1 n

entries_last : (k n : ℕ) → entries_from k (suc n) ≡ entries_from k n ++ ((k + n) ∷ [])
unfolding entries_from
entries_last k zero = rw (add-zero k)
entries_last k (suc n) =
    let s : suc k + n ≡ k + suc n = omega arith in
    ap (λ (l : List ℕ). k ∷ l) (entries_last (suc k) n ∙ rw s)

pub up_to_last : (n : ℕ) → up_to (suc n) ≡ up_to n ++ (suc n ∷ [])
up_to_last n =
    let s : 1 + n ≡ suc n = omega arith in
    entries_last 1 n ∙ ap (λ m. up_to n ++ (m ∷ [])) s

rising_more : (last m count e : ℕ) (entries : List ℕ) → last ≤ m → m < e → e ≤ count → rising_over last m entries ≡ true → rising_over last count (entries ++ (e ∷ [])) ≡ true
rising_more last m count e [] h k c r = rising_on last count e [] (omega arith) c ∙ rising_end e count
rising_more last m count e (i ∷ entries) h k c r =
    let p = rising_parts last m i entries r in
    rising_on last count i (entries ++ (e ∷ [])) p.0 (omega (arith, p.1)) ∙ rising_more i m count e entries p.1 k c p.2

pub up_to_rising : (n : ℕ) → rising n (up_to n) ≡ true
unfolding entries_from
up_to_rising zero = rising_end 0 0
up_to_rising (suc n) =
    ap (rising (suc n)) (up_to_last n) ∙ rising_more 0 n (suc n) (suc n) (up_to n) (omega arith) (omega arith) (omega arith) (up_to_rising n)

-- tests that agree on a list find the same first bad
pub bad_agree : (p q : ℕ → Bool) (l : List ℕ) → All (λ e. p e ≡ q e) l → first_bad p l ≡ first_bad q l
unfolding first_bad
bad_agree p q [] a = refl
bad_agree p q (e ∷ l) a = λ i. choose (a.0 i) (bad_agree p q l a.1 i) e

-- the first bad of those kept is the first that is kept and bad
pub bad_keep : (p q : ℕ → Bool) (l : List ℕ) → first_bad p (keep q l) ≡ first_bad (λ e. choose (q e) (p e) true) l
unfolding first_bad keep
bad_keep p q [] = refl
bad_keep p q (e ∷ l) = go (q e) (bad_keep p q l)
  where
    go : (t : Bool) → first_bad p (keep q l) ≡ first_bad (λ e. choose (q e) (p e) true) l
        → first_bad p (choose t (e ∷ keep q l) (keep q l)) ≡ choose (choose t (p e) true) (first_bad (λ e. choose (q e) (p e) true) l) e
    go true h = ap (λ b. choose (p e) b e) h
    go false h = h

-- no bad line, where all are readable, and the reverse for entries from 1
pub none_bad : (readable : ℕ → Bool) (entries : List ℕ) → All (λ e. readable e ≡ true) entries → first_bad readable entries ≡ 0
unfolding first_bad
none_bad readable [] h = refl
none_bad readable (e ∷ entries) h = rw h.0 (none_bad readable entries h.1)

pub all_readable : (readable : ℕ → Bool) (last count : ℕ) (entries : List ℕ) → rising_over last count entries ≡ true → first_bad readable entries ≡ 0 → All (λ e. readable e ≡ true) entries
unfolding first_bad
all_readable readable last count [] r z = tt
all_readable readable last count (e ∷ entries) r z =
    let p = rising_parts last count e entries r in
    go (readable e) refl p.0 z (λ k. all_readable readable e count entries p.2 k)
  where
    go : (t : Bool) → readable e ≡ t → last < e → choose t (first_bad readable entries) e ≡ 0 → (first_bad readable entries ≡ 0 → All (λ e. readable e ≡ true) entries) → All (λ e. readable e ≡ true) (e ∷ entries)
    go true h a z k = (h, k z)
    go false h a z k = absurd (omega (arith, z))

-- the first bad of 1 to n where i of them were seen and none was bad: w is the answer that is right
pub bad_start : (readable : ℕ → Bool) (n : ℕ) → first_bad readable (entries_from (0 + 1) (n - 0)) ≡ first_bad readable (up_to n)
bad_start readable n = rw (zero-add 1, sub-zero n)

module _ (readable : ℕ → Bool) (i n w : ℕ) (e : first_bad readable (entries_from (i + 1) (n - i)) ≡ w) where
  next_entry : i < n → entries_from (i + 1) (n - i) ≡ (i + 1) ∷ entries_from (i + 1 + 1) (n - (i + 1))
  unfolding entries_from
  next_entry h =
      let s : n - i ≡ suc (n - (i + 1)) = omega arith in
      rw (s, add-one (i + 1))

  pub bad_here : i < n → readable (i + 1) ≡ false → i + 1 ≡ w
  unfolding first_bad
  bad_here h t = rw (next_entry h, t) at e

  pub bad_later : i < n → readable (i + 1) ≡ true → first_bad readable (entries_from (i + 1 + 1) (n - (i + 1))) ≡ w
  unfolding first_bad
  bad_later h t = rw (next_entry h, t) at e

  pub bad_none : n ≤ i → 0 ≡ w
  unfolding first_bad entries_from
  bad_none h =
      let s : n - i ≡ 0 = omega arith in
      rw s at e
