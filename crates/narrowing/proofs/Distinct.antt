-- Laws of lists in any order whose entries are in 1 to count, none twice, and of their first bad line.
use Prim.Native.Nat.{ℕ, zero, suc, ◌+◌, ◌≤◌, ◌<◌}
use mathlib.Core.Path.{◌≡◌, refl, sym, ap, subst, ◌∙◌}
use mathlib.Core.List.{List, [], ◌∷◌, ◌++◌}
use mathlib.Core.Bool.{Bool, true, false, not, ◌&&◌, ◌||◌, true≢false, or-true, and-eq-true_iff}
use native.Mathlib.Omega.{arith}
use borrow.Author.Tests.{ltb-true, leb-true, leb-false, lt-ltb, le-leb, eq-eqb, ne_eqb, eqb-true, eqb-false, not-true}
use lib.Dec.{eqb, ltb, leb}
use lib.ListN.{length}
use Rattle.format.specs.Format.{choose, All, keep}
use Rattle.format.proofs.Lists.{all_parts, all_weaker, all_both}
use Rattle.narrowing.specs.Narrowing.{entries_from, up_to, rising_over, rising, has, distinct, first_bad}
use Rattle.format.proofs.Keeping.{keep_all, keep_agree, keep_every, keep_passes}
use Rattle.narrowing.proofs.Rising.{rising_parts, rising_within, up_to_rising, bad_keep, none_bad}

module _ (count e : ℕ) (entries : List ℕ) where
  pub distinct_on : 0 < e → e ≤ count → has e entries ≡ false → distinct count (e ∷ entries) ≡ distinct count entries
  unfolding distinct
  distinct_on h m n = rw (lt-ltb 0 e h, le-leb e count m, n)

  pub distinct_parts : distinct count (e ∷ entries) ≡ true → (0 < e) × (e ≤ count) × (has e entries ≡ false) × (distinct count entries ≡ true)
  unfolding distinct
  distinct_parts d =
      let a = (and-eq-true_iff (ltb 0 e && leb e count) (not (has e entries) && distinct count entries)).0 d in
      let b = (and-eq-true_iff (ltb 0 e) (leb e count)).0 a.0 in
      let c = (and-eq-true_iff (not (has e entries)) (distinct count entries)).0 a.1 in
      (ltb-true 0 e b.0, leb-true e count b.1, not-true (has e entries) c.0, c.1)

pub distinct_end : (count : ℕ) → distinct count [] ≡ true
unfolding distinct
distinct_end count = refl

-- each entry is in 1 to count
pub distinct_within : (count : ℕ) (k : List ℕ) → distinct count k ≡ true → All (λ e. (0 < e) × (e ≤ count)) k
distinct_within count [] d = tt
distinct_within count (e ∷ k) d = let p = distinct_parts count e k d in ((p.0, p.1), distinct_within count k p.3)

-- WHAT STANDS IN A LIST
pub has_none : (e : ℕ) → has e [] ≡ false
unfolding has
has_none e = refl

has_append : (e : ℕ) (k l : List ℕ) → has e (k ++ l) ≡ (has e k || has e l)
unfolding has
has_append e [] l = refl
has_append e (i ∷ k) l = go (eqb i e) (has_append e k l)
  where
    go : (t : Bool) → has e (k ++ l) ≡ (has e k || has e l) → (t || has e (k ++ l)) ≡ ((t || has e k) || has e l)
    go true h = refl
    go false h = h

-- one more
pub has_more : (e : ℕ) (k : List ℕ) (i : ℕ) → has e (k ++ (i ∷ [])) ≡ (has e k || (eqb i e || false))
unfolding has
has_more e k i = has_append e k (i ∷ [])

-- what holds of every element holds of each that stands there, and the reverse
pub all_has : (P : ℕ → Type 0) (k : List ℕ) → All P k → (e : ℕ) → has e k ≡ true → P e
unfolding has
all_has P [] a e h = absurd (true≢false (sym h))
all_has P (i ∷ k) a e h = go (eqb i e) refl h (λ t. all_has P k a.1 e t)
  where
    go : (t : Bool) → eqb i e ≡ t → (t || has e k) ≡ true → (has e k ≡ true → P e) → P e
    go true q h f = subst P (eqb-true i e q) a.0
    go false q h f = f h

pub has_all : (P : ℕ → Type 0) (k : List ℕ) → ((e : ℕ) → has e k ≡ true → P e) → All P k
unfolding has
has_all P [] f = tt
has_all P (i ∷ k) f = (f i (ap (λ t. t || has i k) (eq-eqb i i refl)), has_all P k (λ e h. f e (ap (λ t. eqb i e || t) h ∙ or-true (eqb i e))))

-- what differs from all does not stand there
has_not : (e : ℕ) (k : List ℕ) → All (λ i. i ≡ e → ⊥) k → has e k ≡ false
unfolding has
has_not e [] a = refl
has_not e (i ∷ k) a = ap (λ t. t || has e k) (ne_eqb i e a.0) ∙ has_not e k a.1

not_has : (e : ℕ) (k : List ℕ) → has e k ≡ false → All (λ i. i ≡ e → ⊥) k
not_has e k h = has_all (λ i. i ≡ e → ⊥) k (λ i t s. true≢false (sym t ∙ ap (λ j. has j k) s ∙ h))

-- what is kept of such a list is one
pub distinct_keep : (test : ℕ → Bool) (count : ℕ) (k : List ℕ) → distinct count k ≡ true → distinct count (keep test k) ≡ true
unfolding keep
distinct_keep test count [] d = d
distinct_keep test count (e ∷ k) d =
    let p = distinct_parts count e k d in
    go (test e) p.0 p.1 p.2 (distinct_keep test count k p.3)
  where
    go : (t : Bool) → 0 < e → e ≤ count → has e k ≡ false → distinct count (keep test k) ≡ true → distinct count (choose t (e ∷ keep test k) (keep test k)) ≡ true
    go true h m n d = distinct_on count e (keep test k) h m (has_not e (keep test k) (keep_all (λ i. i ≡ e → ⊥) test k (not_has e k n))) ∙ d
    go false h m n d = d

-- AT MOST COUNT ENTRIES: of those in 1 to count + 1 at most one is over count
lower : (count most : ℕ) (k : List ℕ) → distinct most k ≡ true → All (λ e. leb e count ≡ true) k → distinct count k ≡ true
lower count most [] d a = distinct_end count
lower count most (e ∷ k) d a =
    let p = distinct_parts most e k d in
    distinct_on count e k p.0 (leb-true e count a.0) p.2 ∙ lower count most k p.3 a.1

all_but_one : (count : ℕ) (k : List ℕ) → distinct (suc count) k ≡ true → length k ≤ length (keep (λ e. leb e count) k) + 1
unfolding keep
all_but_one count [] d = omega arith
all_but_one count (e ∷ k) d =
    let p = distinct_parts (suc count) e k d in
    go p.1 (distinct_within (suc count) k p.3) (not_has e k p.2) (all_but_one count k p.3) (leb e count) refl
  where
    low : List ℕ
    low = keep (λ i. leb i count) k

    go : e ≤ suc count → All (λ i. (0 < i) × (i ≤ suc count)) k → All (λ i. i ≡ e → ⊥) k → length k ≤ length low + 1
        → (t : Bool) → leb e count ≡ t → suc (length k) ≤ length (choose t (e ∷ low) low) + 1
    go m w a h true q = omega arith
    go m w a h false q =
        let over = leb-false e count q in
        let rest : low ≡ k = keep_agree (λ i. leb i count) (λ i. true) k
        (all_both (λ i. (0 < i) × (i ≤ suc count)) (λ i. i ≡ e → ⊥) (λ i. leb i count ≡ true) (λ i b z. le-leb i count (omega (arith, b.1, z, over))) k w a) ∙ keep_every k in
        omega (arith, ap length rest)

pub distinct_few : (count : ℕ) (k : List ℕ) → distinct count k ≡ true → length k ≤ count
distinct_few zero [] d = omega arith
distinct_few zero (e ∷ k) d = let p = distinct_parts 0 e k d in absurd (omega (arith, p.0, p.1))
distinct_few (suc count) k d =
    let low = keep (λ e. leb e count) k in
    let few = distinct_few count low (lower count (suc count) low (distinct_keep (λ e. leb e count) (suc count) k d) (keep_passes (λ e. leb e count) k)) in
    omega (arith, few, all_but_one count k d)

-- what rises is such a list
over : (low last count : ℕ) (k : List ℕ) → low ≤ last → rising_over last count k ≡ true → All (λ i. i ≡ low → ⊥) k
over low last count [] l r = tt
over low last count (i ∷ k) l r =
    let p = rising_parts last count i k r in
    (λ s. omega (arith, p.0), over low i count k (omega (arith, p.0)) p.2)

rising_over_distinct : (last count : ℕ) (k : List ℕ) → rising_over last count k ≡ true → distinct count k ≡ true
rising_over_distinct last count [] r = distinct_end count
rising_over_distinct last count (e ∷ k) r =
    let p = rising_parts last count e k r in
    distinct_on count e k (omega (arith, p.0)) p.1 (has_not e k (over e e count k (omega arith) p.2)) ∙ rising_over_distinct e count k p.2

pub rising_distinct : (count : ℕ) (k : List ℕ) → rising count k ≡ true → distinct count k ≡ true
rising_distinct count k r = rising_over_distinct 0 count k r

-- ONE MORE ENTRY after those of k
module _ (count e : ℕ) where
  -- it is in 1 to count, and not among them
  pub distinct_at : (k l : List ℕ) → distinct count (k ++ (e ∷ l)) ≡ true → (0 < e) × (e ≤ count) × (has e k ≡ false)
  unfolding has
  distinct_at [] l d = let p = distinct_parts count e l d in (p.0, p.1, refl)
  distinct_at (i ∷ k) l d =
      let p = distinct_parts count i (k ++ (e ∷ l)) d in
      let q = distinct_at k l p.3 in
      let apart = all_parts (λ j. j ≡ i → ⊥) k (e ∷ l) (not_has i (k ++ (e ∷ l)) p.2) in
      (q.0, q.1, ap (λ t. t || has e k) (ne_eqb i e (λ z. apart.1.0 (sym z))) ∙ q.2)

  pub distinct_more : (k : List ℕ) → distinct count k ≡ true → 0 < e → e ≤ count → has e k ≡ false → distinct count (k ++ (e ∷ [])) ≡ true
  distinct_more [] d h m n = distinct_on count e [] h m (has_none e) ∙ d
  distinct_more (i ∷ k) d h m n =
      let p = distinct_parts count i k d in
      let a = not_has e (i ∷ k) n in
      distinct_on count i (k ++ (e ∷ [])) p.0 p.1 (has_append i k (e ∷ []) ∙ ap (λ t. t || has i (e ∷ [])) p.2 ∙ has_not i (e ∷ []) (λ s. a.0 (sym s), tt))
      ∙ distinct_more k p.3 h m (has_not e k a.1)

-- THE FIRST BAD LINE: none, for entries from 1, exactly if all are readable
pub no_bad : (readable : ℕ → Bool) (k : List ℕ) → All (λ e. 0 < e) k → first_bad readable k ≡ 0 → All (λ e. readable e ≡ true) k
unfolding first_bad
no_bad readable [] a z = tt
no_bad readable (e ∷ k) a z = go (readable e) refl z (λ z. no_bad readable k a.1 z)
  where
    go : (t : Bool) → readable e ≡ t → choose t (first_bad readable k) e ≡ 0 → (first_bad readable k ≡ 0 → All (λ e. readable e ≡ true) k) → All (λ e. readable e ≡ true) (e ∷ k)
    go true h z f = (h, f z)
    go false h z f = absurd (omega (arith, z, a.0))

-- what holds of 1 to n
entries_all : (P : ℕ → Type 0) (from n : ℕ) → All P (entries_from from n) → (e : ℕ) → from ≤ e → e < from + n → P e
unfolding entries_from
entries_all P from zero a e l m = absurd (omega arith)
entries_all P from (suc n) a e l m = go (eqb from e) refl (λ z. entries_all P (suc from) n a.1 e (omega (arith, z)) (omega arith))
  where
    go : (t : Bool) → eqb from e ≡ t → ((from ≡ e → ⊥) → P e) → P e
    go true q f = subst P (eqb-true from e q) a.0
    go false q f = f (eqb-false from e q)

-- BOTH ORDERS: the entries of k, in 1 to count, are those of 1 to count that are marked
module _ (marks : ℕ → Bool) (count : ℕ) (k : List ℕ) (within : All (λ e. (0 < e) × (e ≤ count)) k) (m : (e : ℕ) → 0 < e → e ≤ count → marks e ≡ has e k) where
  pub all_marked : All (λ e. marks e ≡ true) k
  all_marked = has_all (λ e. marks e ≡ true) k (λ e h. let w = all_has (λ e. (0 < e) × (e ≤ count)) k within e h in m e w.0 w.1 ∙ h)

  -- no line is bad in list order exactly if none is in line order
  module _ (readable : ℕ → Bool) where
    pub none_listed : first_bad readable (keep marks (up_to count)) ≡ 0 → first_bad readable k ≡ 0
    none_listed z =
        let good = no_bad (λ e. choose (marks e) (readable e) true) (up_to count)
        (all_weaker (λ e. (0 < e) × (e ≤ count)) (λ e. 0 < e) (λ e h. h.0) (up_to count) (rising_within count (up_to count) (up_to_rising count)))
        (sym (bad_keep readable marks (up_to count)) ∙ z) in
        none_bad readable k (has_all (λ e. readable e ≡ true) k (λ e h.
        let w = all_has (λ e. (0 < e) × (e ≤ count)) k within e h in
        let t = m e w.0 w.1 ∙ h in
        let g = entries_all (λ e. choose (marks e) (readable e) true ≡ true) 1 count good e (omega (arith, w.0)) (omega (arith, w.1)) in
        ap (λ b. choose b (readable e) true) (sym t) ∙ g))

    pub none_in_lines : first_bad readable k ≡ 0 → first_bad readable (keep marks (up_to count)) ≡ 0
    none_in_lines z =
        let good = no_bad readable k (all_weaker (λ e. (0 < e) × (e ≤ count)) (λ e. 0 < e) (λ e h. h.0) k within) z in
        none_bad readable (keep marks (up_to count))
        (all_both (λ e. (0 < e) × (e ≤ count)) (λ e. marks e ≡ true) (λ e. readable e ≡ true) (λ e w t. all_has (λ e. readable e ≡ true) k good e (sym (m e w.0 w.1) ∙ t))
        (keep marks (up_to count)) (keep_all (λ e. (0 < e) × (e ≤ count)) marks (up_to count) (rising_within count (up_to count) (up_to_rising count))) (keep_passes marks (up_to count)))
