-- The order of prefixes is an order, and only equal prefixes stand level.
use Prim.Native.Nat.{ℕ, ◌<◌, ◌≤◌}
use native.Mathlib.Omega.{arith}
use mathlib.Core.Path.{◌≡◌, refl, sym, ◌∙◌}
use mathlib.Core.List.{List, [], ◌∷◌}
use mathlib.Core.Bool.{Bool, true, false}
use lib.Dec.{eqb, ltb}
use borrow.Author.Tests.{eq-eqb, ne_eqb, eqb-true, eqb-false, ltb-true, ltb-false, lt-ltb, le-ltb}
use Rattle.arrangement.specs.Prefixes.{less_codes, prefix_before}
use Rattle.arrangement.specs.Laws.{Order, PrefixOrder}
use Rattle.arrangement.proofs.Merging.{differ}

over : (a b : ℕ) → (a ≡ b → ⊥) → b ≤ a → b < a
over a b h k = omega arith

pub less_none : (p : List ℕ) → less_codes p [] ≡ false
unfolding less_codes
less_none [] = refl
less_none (a ∷ p) = refl

pub none_less : (b : ℕ) (q : List ℕ) → less_codes [] (b ∷ q) ≡ true
unfolding less_codes
none_less b q = refl

module _ (a b : ℕ) (p q : List ℕ) where
  pub less_same : a ≡ b → less_codes (a ∷ p) (b ∷ q) ≡ less_codes p q
  unfolding less_codes
  less_same h = rw (eq-eqb a b h)

  pub less_apart : (a ≡ b → ⊥) → less_codes (a ∷ p) (b ∷ q) ≡ ltb a b
  unfolding less_codes
  less_apart h = rw (ne_eqb a b h)

  pub less_lower : a < b → less_codes (a ∷ p) (b ∷ q) ≡ true
  unfolding less_codes
  less_lower h = rw (ne_eqb a b (λ e. omega arith), lt-ltb a b h)

  pub less_higher : b < a → less_codes (a ∷ p) (b ∷ q) ≡ false
  unfolding less_codes
  less_higher h = rw (ne_eqb a b (λ e. omega arith), le-ltb a b (omega arith))

-- which of two codes is lower
pub data Which (a b : ℕ) : Type 0 where
  lower : a < b → Which a b
  same : a ≡ b → Which a b
  higher : b < a → Which a b

pub which : (a b : ℕ) → Which a b
which a b = go (eqb a b) (ltb a b) refl refl
  where
    go : (t u : Bool) → eqb a b ≡ t → ltb a b ≡ u → Which a b
    go true u h k = same (eqb-true a b h)
    go false true h k = lower (ltb-true a b k)
    go false false h k = higher (over a b (eqb-false a b h) (ltb-false a b k))

pub less_never : (p : List ℕ) → less_codes p p ≡ false
unfolding less_codes
less_never [] = refl
less_never (a ∷ p) = less_same a a p p refl ∙ less_never p

less_chain : (p q r : List ℕ) → less_codes p q ≡ true → less_codes q r ≡ true → less_codes p r ≡ true
less_chain p q [] h k = absurd (differ (sym (less_none q) ∙ k))
less_chain [] q (c ∷ r) h k = none_less c r
less_chain (a ∷ p) [] (c ∷ r) h k = absurd (differ (sym (less_none (a ∷ p)) ∙ h))
less_chain (a ∷ p) (b ∷ q) (c ∷ r) h k = go (which a b) (which b c) (less_chain p q r)
  where
    go : Which a b → Which b c → (less_codes p q ≡ true → less_codes q r ≡ true → less_codes p r ≡ true) → less_codes (a ∷ p) (c ∷ r) ≡ true
    go (higher x) y ih = absurd (differ (sym (less_higher a b p q x) ∙ h))
    go (lower x) (higher y) ih = absurd (differ (sym (less_higher b c q r y) ∙ k))
    go (same x) (higher y) ih = absurd (differ (sym (less_higher b c q r y) ∙ k))
    go (lower x) (lower y) ih = less_lower a c p r (omega arith)
    go (lower x) (same y) ih = less_lower a c p r (omega arith)
    go (same x) (lower y) ih = less_lower a c p r (omega arith)
    go (same x) (same y) ih = less_same a c p r (x ∙ y) ∙ ih (sym (less_same a b p q x) ∙ h) (sym (less_same b c q r y) ∙ k)

less_after : (p q r : List ℕ) → less_codes p q ≡ false → less_codes q r ≡ false → less_codes p r ≡ false
less_after p q [] h k = less_none p
less_after p [] (c ∷ r) h k = absurd (differ (sym k ∙ none_less c r))
less_after [] (b ∷ q) (c ∷ r) h k = absurd (differ (sym h ∙ none_less b q))
less_after (a ∷ p) (b ∷ q) (c ∷ r) h k = go (which a b) (which b c) (less_after p q r)
  where
    go : Which a b → Which b c → (less_codes p q ≡ false → less_codes q r ≡ false → less_codes p r ≡ false) → less_codes (a ∷ p) (c ∷ r) ≡ false
    go (lower x) y ih = absurd (differ (sym h ∙ less_lower a b p q x))
    go (higher x) (lower y) ih = absurd (differ (sym k ∙ less_lower b c q r y))
    go (same x) (lower y) ih = absurd (differ (sym k ∙ less_lower b c q r y))
    go (higher x) (higher y) ih = less_higher a c p r (omega arith)
    go (higher x) (same y) ih = less_higher a c p r (omega arith)
    go (same x) (higher y) ih = less_higher a c p r (omega arith)
    go (same x) (same y) ih = less_same a c p r (x ∙ y) ∙ ih (sym (less_same a b p q x) ∙ h) (sym (less_same b c q r y) ∙ k)

less_level : (p q : List ℕ) → less_codes p q ≡ false → less_codes q p ≡ false → p ≡ q
less_level [] [] h k = refl
less_level [] (b ∷ q) h k = absurd (differ (sym h ∙ none_less b q))
less_level (a ∷ p) [] h k = absurd (differ (sym k ∙ none_less a p))
less_level (a ∷ p) (b ∷ q) h k = go (which a b) (less_level p q)
  where
    go : Which a b → (less_codes p q ≡ false → less_codes q p ≡ false → p ≡ q) → a ∷ p ≡ b ∷ q
    go (lower x) ih = absurd (differ (sym h ∙ less_lower a b p q x))
    go (higher x) ih = absurd (differ (sym k ∙ less_lower b a q p x))
    go (same x) ih = let e = ih (sym (less_same a b p q x) ∙ h) (sym (less_same b a q p (sym x)) ∙ k) in cc

pub prefix_order : Order prefix_before
unfolding prefix_before
prefix_order = record { never = never; chain = chain; after = after }
  where
    never : (p : List ℕ) → prefix_before p p ≡ false
    never [] = refl
    never (a ∷ p) = less_never (a ∷ p)

    chain : (p q r : List ℕ) → prefix_before p q ≡ true → prefix_before q r ≡ true → prefix_before p r ≡ true
    chain [] q r h k = absurd (differ h)
    chain (a ∷ p) [] r h k = absurd (differ k)
    chain (a ∷ p) (b ∷ q) [] h k = refl
    chain (a ∷ p) (b ∷ q) (c ∷ r) h k = less_chain (a ∷ p) (b ∷ q) (c ∷ r) h k

    after : (p q r : List ℕ) → prefix_before p q ≡ false → prefix_before q r ≡ false → prefix_before p r ≡ false
    after [] q r h k = refl
    after (a ∷ p) [] r h k = absurd (differ (sym h))
    after (a ∷ p) (b ∷ q) [] h k = absurd (differ (sym k))
    after (a ∷ p) (b ∷ q) (c ∷ r) h k = less_after (a ∷ p) (b ∷ q) (c ∷ r) h k

pub prefix_level : (p q : List ℕ) → prefix_before p q ≡ false → prefix_before q p ≡ false → p ≡ q
unfolding prefix_before
prefix_level [] [] h k = refl
prefix_level [] (b ∷ q) h k = absurd (differ (sym k))
prefix_level (a ∷ p) [] h k = absurd (differ (sym h))
prefix_level (a ∷ p) (b ∷ q) h k = less_level (a ∷ p) (b ∷ q) h k

pub prefixes : PrefixOrder
prefixes = record { order = prefix_order; total = prefix_level }

-- an order of keys orders what has the keys
pub by_key : {A B : Type 0} {before : B → B → Bool} (key : A → B) → Order before → Order (λ a b. before (key a) (key b))
by_key key o = record {
  never = λ a. o.never (key a);
  chain = λ a b c. o.chain (key a) (key b) (key c);
  after = λ a b c. o.after (key a) (key b) (key c);
}
