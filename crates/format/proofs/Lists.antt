-- What holds of every element of a list, or of two lists element by element, what two equal lists begin with, and lists of zeros.
use Prim.Native.Nat.{ℕ, zero, suc}
use mathlib.Core.List.Perm
use mathlib.Core.List.{List, [], ◌∷◌, ◌++◌, map, foldr, Perm}
use mathlib.Core.Path.{◌≡◌, refl, sym, ap, ◌∙◌}
use mathlib.Core.Bool.{Bool, true, ◌&&◌, and-true, and_assoc, and_comm, and-eq-true_iff, Bool-set}
use lib.ListN.{get_or, replicate}
use Rattle.format.specs.Format.{All, Pairwise, every}

pub all_append : {A : Type 0} (P : A → Type 0) (l m : List A) → All P l → All P m → All P (l ++ m)
all_append P [] m p q = q
all_append P (a ∷ l) m p q = (p.0, all_append P l m p.1 q)

pub all_parts : {A : Type 0} (P : A → Type 0) (l m : List A) → All P (l ++ m) → All P l × All P m
all_parts P [] m ok = (tt, ok)
all_parts P (a ∷ l) m ok = let k = all_parts P l m ok.1 in ((ok.0, k.0), k.1)

pub all_map : {A B : Type 0} (P : B → Type 0) (f : A → B) (l : List A) → All (λ a. P (f a)) l → All P (map f l)
all_map P f [] ok = tt
all_map P f (a ∷ l) ok = (ok.0, all_map P f l ok.1)

pub all_weaker : {A : Type 0} (P Q : A → Type 0) → ((a : A) → P a → Q a) → (l : List A) → All P l → All Q l
all_weaker P Q f [] ok = tt
all_weaker P Q f (a ∷ l) ok = (f a ok.0, all_weaker P Q f l ok.1)

-- what follows from two things of every element
pub all_both : {A : Type 0} (P Q R : A → Type 0) → ((a : A) → P a → Q a → R a) → (l : List A) → All P l → All Q l → All R l
all_both P Q R f [] p q = tt
all_both P Q R f (a ∷ l) p q = (f a p.0 q.0, all_both P Q R f l p.1 q.1)

pub pairs_append : {A B : Type 0} (R : A → B → Type 0) (l k : List A) (m n : List B) → Pairwise R l m → Pairwise R k n → Pairwise R (l ++ k) (m ++ n)
pairs_append R [] k [] n a b = b
pairs_append R [] k (y ∷ m) n a b = absurd a
pairs_append R (x ∷ l) k [] n a b = absurd a
pairs_append R (x ∷ l) k (y ∷ m) n a b = (a.0, pairs_append R l k m n a.1 b)

pub cons_head : {A : Type 0} {a b : A} {l m : List A} → a ∷ l ≡ b ∷ m → a ≡ b
cons_head e = cc

pub cons_tail : {A : Type 0} {a b : A} {l m : List A} → a ∷ l ≡ b ∷ m → l ≡ m
cons_tail e = cc

-- a test that every element passes
module _ {A : Type 0} (test : A → Bool) where
  pub every_all : (l : List A) → every test l ≡ true → All (λ a. test a ≡ true) l
  every_all [] e = tt
  every_all (a ∷ l) e = let k = (and-eq-true_iff (test a) (every test l)).0 e in (k.0, every_all l k.1)

  pub all_every : (l : List A) → All (λ a. test a ≡ true) l → every test l ≡ true
  all_every [] k = refl
  all_every (a ∷ l) k = (and-eq-true_iff (test a) (every test l)).1 (k.0, all_every l k.1)

  pub every_append : (l m : List A) → every test (l ++ m) ≡ (every test l && every test m)
  every_append [] m = refl
  every_append (a ∷ l) m = ap (λ t. test a && t) (every_append l m) ∙ sym (and_assoc (test a) (every test l) (every test m))

  pub every_snoc : (l : List A) (a : A) → every test (l ++ (a ∷ [])) ≡ (every test l && test a)
  every_snoc l a = every_append l (a ∷ []) ∙ ap (λ t. every test l && t) (and-true (test a))

  every_foldr : (l : List A) → every test l ≡ foldr (λ (a : A) (b : Bool). test a && b) true l
  every_foldr [] = refl
  every_foldr (a ∷ l) = ap (λ t. test a && t) (every_foldr l)

  -- the order does not matter
  pub every_perm : (l m : List A) → Perm l m → every test l ≡ every test m
  every_perm l m p =
      every_foldr l
      ∙ Perm.foldr-eq Bool-set (λ (a : A) (b : Bool). test a && b)
      (λ x y b. sym (and_assoc (test x) (test y) b) ∙ ap (λ t. t && b) (and_comm (test x) (test y)) ∙ and_assoc (test y) (test x) b)
      p
      true
      ∙ sym (every_foldr m)

pub every_true : {A : Type 0} (l : List A) → every (λ a. true) l ≡ true
every_true [] = refl
every_true (a ∷ l) = every_true l

-- wherever one looks in zeros there is 0
pub zeros_at : (n i : ℕ) → ◌≡◌ {A = ℕ} (get_or (replicate n 0) i 0) 0
zeros_at zero i = refl
zeros_at (suc n) zero = refl
zeros_at (suc n) (suc i) = zeros_at n i
