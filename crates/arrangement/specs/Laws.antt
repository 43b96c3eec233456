-- What an order has to be, and what an arranged list then is.
use Rattle.std.specs.Prelude.{ℕ, ◌≡◌, Bool, true, false}
use mathlib.Core.List.{List, [], ◌∷◌, ◌++◌, Perm}
use Rattle.format.specs.Format.{All, keep}
use Rattle.arrangement.specs.Arranged.{arranged, merge, level}
use Rattle.arrangement.specs.Prefixes.{prefix_before}

pub record Order {A : Type 0} (before : A → A → Bool) : Type 0 where
  -- nothing comes before itself, and to come before is transitive
  pub never : (a : A) → before a a ≡ false
  pub chain : (a b c : A) → before a b ≡ true → before b c ≡ true → before a c ≡ true
  -- so is to come after or be level
  pub after : (a b c : A) → before a b ≡ false → before b c ≡ false → before a c ≡ false

-- none comes before one that stands ahead of it
abbrev pub InOrder : {A : Type 0} → (A → A → Bool) → List A → Type 0
InOrder before [] = Unit
InOrder before (a ∷ l) = All (λ b. before b a ≡ false) l × InOrder before l

pub record Arrangement {A : Type 0} (before : A → A → Bool) : Type 0 where
  -- the same elements, each as often
  pub same : (l : List A) → Perm (arranged before l) l
  pub in_order : (l : List A) → InOrder before (arranged before l)
  -- those level with any one stand in their old order
  pub stable : (l : List A) (a : A) → keep (level before a) (arranged before l) ≡ keep (level before a) l
  -- and no other list is so
  pub only : (l k : List A) → InOrder before k → ((a : A) → keep (level before a) k ≡ keep (level before a) l) → k ≡ arranged before l
  -- arranging it again changes nothing
  pub again : (l : List A) → arranged before (arranged before l) ≡ arranged before l
  -- it does not matter whether one keeps what passes a test first, or arranges first
  pub keeps : (test : A → Bool) (l : List A) → keep test (arranged before l) ≡ arranged before (keep test l)
  -- two arranged halves merge into the arranged whole
  pub halves : (l k : List A) → merge before (arranged before l) (arranged before k) ≡ arranged before (l ++ k)

-- of two prefixes that are not equal one comes before the other
pub record PrefixOrder : Type 0 where
  pub order : Order prefix_before
  pub total : (p q : List ℕ) → prefix_before p q ≡ false → prefix_before q p ≡ false → p ≡ q
