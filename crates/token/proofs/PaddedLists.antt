-- Laws of lists in arrays, and of stores one after the other.
use Prim.Native.Nat.{ℕ, zero, suc, ◌+◌, ◌-◌, ◌≤◌, ◌<◌}
use native.Mathlib.Nat.{zero-add, suc-add}
use mathlib.Core.List.{List, [], ◌∷◌, ◌++◌, append_assoc, append-nil}
use mathlib.Core.Path.{◌≡◌, refl, sym, ap, ◌∙◌}
use lib.ListN.{length, get_or, set, take, drop, length-append, length-replicate, replicate-append-replicate}
use lib.Seq.{sets, take_at, drop_at}
use native.Mathlib.Omega.{arith}
use Rattle.token.specs.Padded.{padded, zeros}

pub padded_length : (k : ℕ) (l : List ℕ) → length (padded k l) ≡ k
unfolding padded
padded_length zero l = refl
padded_length (suc k) [] = ap suc (padded_length k [])
padded_length (suc k) (v ∷ l) = ap suc (padded_length k l)

pub padded_none : (k : ℕ) → zeros k ≡ padded k []
unfolding padded
padded_none zero = refl
padded_none (suc k) = ap (λ m. 0 ∷ m) (padded_none k)

pub padded_zero : (k : ℕ) → padded (suc k) [] ≡ 0 ∷ padded k []
unfolding padded
padded_zero k = refl

pub padded_first : (k v : ℕ) (l : List ℕ) → padded (suc k) (v ∷ l) ≡ v ∷ padded k l
unfolding padded
padded_first k v l = refl

-- a list and the zeros after it
pub padded_append : (l : List ℕ) (k n : ℕ) → n ≡ length l + k → padded n l ≡ l ++ padded k []
unfolding padded
padded_append [] k n e = ap (λ m. padded m []) (e ∙ zero-add k)
padded_append (v ∷ l) k zero e = absurd (omega (arith, suc-add (length l) k))
padded_append (v ∷ l) k (suc n) e = ap (λ m. v ∷ m) (padded_append l k n (omega arith))

pub take_zeros : (n m : ℕ) → take n (zeros (n + m)) ≡ zeros n
take_zeros n m = ap (take n) (sym (replicate-append-replicate n m 0)) ∙ take_at (zeros n) (zeros m) n (length-replicate n 0)

pub drop_zeros : (n m : ℕ) → drop n (zeros (n + m)) ≡ zeros m
drop_zeros n m = ap (drop n) (sym (replicate-append-replicate n m 0)) ∙ drop_at (zeros n) (zeros m) n (length-replicate n 0)

pub zeros_append : (n m : ℕ) → zeros (n + m) ≡ padded n [] ++ padded m []
zeros_append n m = sym (replicate-append-replicate n m 0) ∙ λ i. padded_none n i ++ padded_none m i

pub padded_at : (k : ℕ) (l : List ℕ) (i : ℕ) → i < k → get_or (padded k l) i 0 ≡ get_or l i 0
unfolding padded
padded_at zero l i h = absurd (omega arith)
padded_at (suc k) [] zero h = refl
padded_at (suc k) [] (suc i) h = padded_at k [] i (omega arith)
padded_at (suc k) (v ∷ l) zero h = refl
padded_at (suc k) (v ∷ l) (suc i) h = padded_at k l i (omega arith)

pub take_padded : (k : ℕ) (l : List ℕ) → length l ≤ k → take (length l) (padded k l) ≡ l
unfolding padded
take_padded zero [] h = refl
take_padded zero (v ∷ l) h = absurd (omega arith)
take_padded (suc k) [] h = refl
take_padded (suc k) (v ∷ l) h = ap (λ m. v ∷ m) (take_padded k l (omega arith))

-- the zeros after the list
pub drop_padded : (k : ℕ) (l : List ℕ) → length l ≤ k → drop (length l) (padded k l) ≡ zeros (k - length l)
unfolding padded
drop_padded zero [] h = refl
drop_padded zero (v ∷ l) h = absurd (omega arith)
drop_padded (suc k) [] h = let e : suc k ≡ suc k - 0 = omega arith in sym (padded_none (suc k)) ∙ ap zeros e
drop_padded (suc k) (v ∷ l) h = let e : k - length l ≡ suc k - suc (length l) = omega arith in drop_padded k l (omega arith) ∙ ap zeros e

-- a store after the list
pub padded_put : (k : ℕ) (l : List ℕ) (v : ℕ) → set (padded k l) (length l) v ≡ padded k (l ++ (v ∷ []))
unfolding padded
padded_put zero l v = refl
padded_put (suc k) [] v = refl
padded_put (suc k) (u ∷ l) v = ap (λ m. u ∷ m) (padded_put k l v)

pub sets_append : (xs ys l : List ℕ) (i : ℕ) → sets (sets l i xs) (i + length xs) ys ≡ sets l i (xs ++ ys)
sets_append [] ys l i = ap (λ j. sets l j ys) (omega arith)
sets_append (x ∷ xs) ys l i =
    let e : i + suc (length xs) ≡ suc i + length xs = omega arith in
    ap (λ j. sets (sets (set l i x) (suc i) xs) j ys) e ∙ sets_append xs ys (set l i x) (suc i)

-- stores after the list
pub sets_padded : (k : ℕ) (vs l : List ℕ) → sets (padded k l) (length l) vs ≡ padded k (l ++ vs)
sets_padded k [] l = ap (padded k) (sym (append-nil l))
sets_padded k (v ∷ vs) l =
    let e : suc (length l) ≡ length (l ++ (v ∷ [])) = omega (arith, length-append l (v ∷ [])) in
    (λ i. sets (padded_put k l v i) (e i) vs) ∙ sets_padded k vs (l ++ (v ∷ [])) ∙ ap (padded k) (append_assoc l (v ∷ []) vs)
