-- The verdict is right, and no other judgement is.
use Prim.Native.Nat.{ℕ, zero, suc, ◌+◌, ◌<◌}
use mathlib.Core.Path.{◌≡◌, refl, ap}
use mathlib.Core.List.{List, [], ◌∷◌, map}
use mathlib.Core.Bool.{Bool, true, false}
use mathlib.Core.Logic.{◌⊎◌, inl, inr, ⊎_elim}
use native.Mathlib.Omega.{arith}
use borrow.Author.Tests.{eq-eqb, ne_eqb}
use Rattle.format.specs.Format.{choose, Pairwise}
use Rattle.grammar.specs.Sign.{Meaning}
use Rattle.querygrammar.specs.Query.{Sought, Query}
use Rattle.matching.specs.Meets.{Serves, Some, Nth, Condition, Meets, serves, first_from, prefix_holds, Judgement, unmet, met, missing, judged, witnesses_of, verdict_of, is_met, answered}
use Rattle.matching.specs.MeetsLaws.{First, Right, MeetsLaws}
use Rattle.matching.proofs.Deciding.{clash, Decides, prefix_decides, serves_decides}

-- THE FIRST OF WHICH A STATEMENT HOLDS

module _ {A : Type 0} (test : A → Bool) (P : A → Type 0) (d : (a : A) → Decides (test a) (P a)) where
  pub data Found (l : List A) (k w : ℕ) : Type 0 where
    absent : w ≡ 0 → (Some P l → ⊥) → Found l k w
    found : (n : ℕ) → w ≡ k + n → First P (suc n) l → Some P l → Found l k w

  found_go : (a : A) (l : List A) (k w : ℕ) (t : Bool) → test a ≡ t → Found l (k + 1) w → Found (a ∷ l) k (choose t k w)
  found_go a l k w true e f = found 0 (omega arith) ((d a).sound e) (inl ((d a).sound e))
  found_go a l k w false e (absent z n) = absent z (⊎_elim (λ p. clash ((d a).complete p) e) n)
  found_go a l k w false e (found n z f s) = found (suc n) (omega arith) ((λ p. clash ((d a).complete p) e), f) (inr s)

  pub first_known : (l : List A) (k : ℕ) → Found l k (first_from k test l)
  first_known [] k = absent refl (λ z. z)
  first_known (a ∷ l) k = found_go a l k (first_from (k + 1) test l) (test a) refl (first_known l (k + 1))

-- THE ITEMS

module _ {A : Type 0} (S : A → Type 0) (W : A → ℕ → Type 0) (witness : A → ℕ) where
  pub data Item (a : A) : Type 0 where
    lacks : witness a ≡ 0 → (S a → ⊥) → Item a
    has : (witness a ≡ 0 → ⊥) → S a → W a (witness a) → Item a

  pub data Items (l : List A) (k w : ℕ) : Type 0 where
    whole : w ≡ 0 → ((n : ℕ) → Nth S n l) → Pairwise W l (map witness l) → Items l k w
    broken : (n : ℕ) → w ≡ k + n → (Nth S n l → ⊥) → ((j : ℕ) → j < n → Nth S j l) → Items l k w

  all_more : (a : A) (l : List A) → S a → ((n : ℕ) → Nth S n l) → (n : ℕ) → Nth S n (a ∷ l)
  all_more a l s f zero = s
  all_more a l s f (suc n) = f n

  before_more : (a : A) (l : List A) (n : ℕ) → S a → ((j : ℕ) → j < n → Nth S j l) → (j : ℕ) → j < suc n → Nth S j (a ∷ l)
  before_more a l n s f zero h = s
  before_more a l n s f (suc j) h = f j (omega arith)

  items_go : (a : A) (l : List A) (k w : ℕ) → Item a → Items l (k + 1) w → Items (a ∷ l) k (choose (missing (witness a)) k w)
  items_go a l k w (lacks z n) i = rw (eq-eqb (witness a) 0 z) (broken 0 (omega arith) n (λ j h. absurd (omega arith)))
  items_go a l k w (has z s v) (whole e f p) = rw (ne_eqb (witness a) 0 z) (whole e (all_more a l s f) (v, p))
  items_go a l k w (has z s v) (broken n e u f) = rw (ne_eqb (witness a) 0 z) (broken (suc n) (omega arith) u (before_more a l n s f))

  pub items_known : ((a : A) → Item a) → (l : List A) (k : ℕ) → Items l k (first_from k missing (map witness l))
  items_known each [] k = whole refl (λ n. tt) tt
  items_known each (a ∷ l) k = items_go a l k (first_from (k + 1) missing (map witness l)) (each a) (items_known each l (k + 1))

-- THE VERDICT

module _ (q : Query) (m : Meaning) where
  abbrev Served : Sought → Type 0
  Served sought = Some (Serves q.variance sought) m.symbols

  abbrev Witness : Sought → ℕ → Type 0
  Witness sought w = First (Serves q.variance sought) w m.symbols

  abbrev witness : Sought → ℕ
  witness sought = first_from 1 (serves q.variance sought) m.symbols

  item_go : (sought : Sought) → Found (serves q.variance sought) (Serves q.variance sought) (serves_decides q.variance sought) m.symbols 1 (witness sought)
      → Item Served Witness witness sought
  item_go sought (absent z n) = lacks z n
  item_go sought (found n z f s) =
      let e : suc n ≡ witness sought = omega arith in
      has (λ y. omega arith) s (rw e at f)

  item_known : (sought : Sought) → Item Served Witness witness sought
  item_known sought = item_go sought (first_known (serves q.variance sought) (Serves q.variance sought) (serves_decides q.variance sought) m.symbols 1)

  all_conditions : Condition q m 0 → ((n : ℕ) → Nth Served n q.items) → Meets q m
  all_conditions p f zero = p
  all_conditions p f (suc n) = f n

  before_conditions : (n : ℕ) → Condition q m 0 → ((j : ℕ) → j < n → Nth Served j q.items) → (k : ℕ) → k < suc n → Condition q m k
  before_conditions n p f zero h = p
  before_conditions n p f (suc k) h = f k (omega arith)

  pub right_unmet : (n : ℕ) → (Condition q m n → ⊥) → ((k : ℕ) → k < n → Condition q m k) → Right q m (unmet n)
  right_unmet n u f = record {
    exactly = ((λ e. clash e refl), (λ s. absurd (u (s n))));
    witnesses = λ ws e. absurd (let z : ◌≡◌ {A = ℕ} 0 1 = cc in omega arith);
    first_unmet = λ k e. let z : n ≡ k = cc in rw (← z) (u, f);
  }

  right_met : (ws : List ℕ) → Meets q m → Pairwise Witness q.items ws → Right q m (met ws)
  right_met ws s p = record {
    exactly = ((λ e. s), (λ e. refl));
    witnesses = λ vs e. let z : ws ≡ vs = cc in rw z at p;
    first_unmet = λ k e. absurd (let z : ◌≡◌ {A = ℕ} 0 1 = cc in omega arith);
  }

  right_items : Condition q m 0 → (w : ℕ) → Items Served Witness witness q.items 1 w → Right q m (choose (missing w) (met (map witness q.items)) (unmet w))
  right_items p w (whole z f v) = rw (eq-eqb w 0 z) (right_met (map witness q.items) (all_conditions p f) v)
  right_items p w (broken n z u f) =
      let e : w ≡ suc n = omega arith in
      rw (ne_eqb w 0 (λ y. omega arith), e) (right_unmet (suc n) u (before_conditions n p f))

  right_go : (t : Bool) → prefix_holds q.prefix m.prefix ≡ t → Right q m (choose t (judged (witnesses_of q m)) (unmet 0))
  unfolding judged witnesses_of
  right_go true e = right_items ((prefix_decides q.prefix m.prefix).sound e) (first_from 1 missing (map witness q.items)) (items_known Served Witness witness item_known q.items 1)
  right_go false e = right_unmet 0 (λ p. clash ((prefix_decides q.prefix m.prefix).complete p) e) (λ k h. absurd (omega arith))

  pub verdict_right : Right q m (verdict_of q m)
  unfolding verdict_of
  verdict_right = right_go (prefix_holds q.prefix m.prefix) refl

-- NO OTHER

first_same : {A : Type 0} (P : A → Type 0) (l : List A) (v w : ℕ) → First P v l → First P w l → v ≡ w
first_same P l zero w f g = absurd f
first_same P l (suc v) zero f g = absurd g
first_same P [] (suc v) (suc w) f g = absurd f
first_same P (a ∷ l) (suc zero) (suc zero) f g = refl
first_same P (a ∷ l) (suc zero) (suc (suc w)) f g = absurd (g.0 f)
first_same P (a ∷ l) (suc (suc v)) (suc zero) f g = absurd (f.0 g)
first_same P (a ∷ l) (suc (suc v)) (suc (suc w)) f g = ap suc (first_same P l (suc v) (suc w) f.1 g.1)

pairs_same : {A : Type 0} (W : A → ℕ → Type 0) → ((a : A) (v w : ℕ) → W a v → W a w → v ≡ w)
    → (l : List A) (vs ws : List ℕ) → Pairwise W l vs → Pairwise W l ws → vs ≡ ws
pairs_same W one [] [] [] f g = refl
pairs_same W one [] [] (w ∷ ws) f g = absurd g
pairs_same W one [] (v ∷ vs) ws f g = absurd f
pairs_same W one (a ∷ l) [] ws f g = absurd f
pairs_same W one (a ∷ l) (v ∷ vs) [] f g = absurd g
pairs_same W one (a ∷ l) (v ∷ vs) (w ∷ ws) f g = λ i. one a v w f.0 g.0 i ∷ pairs_same W one l vs ws f.1 g.1 i

module _ (q : Query) (m : Meaning) where
  numbers_same : (n k : ℕ) → Right q m (unmet n) → Right q m (unmet k) → n ≡ k
  numbers_same n k r s = ⊎_elim (λ e. e) (⊎_elim (λ h. absurd ((r.first_unmet n refl).0 ((s.first_unmet k refl).1 n h))) (λ h. absurd ((s.first_unmet k refl).0 ((r.first_unmet n refl).1 k h)))) (apart n k)
    where
      apart : (n k : ℕ) → (n ≡ k) ⊎ ((n < k) ⊎ (k < n))
      apart zero zero = inl refl
      apart zero (suc k) = inr (inl (omega arith))
      apart (suc n) zero = inr (inr (omega arith))
      apart (suc n) (suc k) = ⊎_elim (λ e. inl (ap suc e)) (⊎_elim (λ h. inr (inl (omega arith))) (λ h. inr (inr (omega arith)))) (apart n k)

  right_same : (v w : Judgement) → Right q m v → Right q m w → v ≡ w
  right_same (unmet n) (unmet k) r s = ap unmet (numbers_same n k r s)
  right_same (unmet n) (met ws) r s = clash (r.exactly.1 (s.exactly.0 refl)) refl
  right_same (met vs) (unmet k) r s = clash (s.exactly.1 (r.exactly.0 refl)) refl
  right_same (met vs) (met ws) r s =
      ap met (pairs_same (Witness q m) (λ a. first_same (Serves q.variance a) m.symbols) q.items vs ws (r.witnesses vs refl) (s.witnesses ws refl))

  pub meets_laws : MeetsLaws q m
  meets_laws = record { right = verdict_right q m; only = λ v r. right_same v (verdict_of q m) r (verdict_right q m) }

-- the answer's flag
pub answered_met : (j : Judgement) → (answered j).met ≡ is_met j
answered_met (unmet n) = refl
answered_met (met ws) = refl
