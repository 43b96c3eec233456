-- Laws of entries with zeros after them, and of 1 to n written in front.
use Prim.Native.Nat.{ℕ, suc, ◌+◌, ◌-◌, ◌≤◌, ◌<◌}
use mathlib.Core.Path.{◌≡◌, refl, sym}
use mathlib.Core.List.{List, [], ◌∷◌, ◌++◌, append_assoc}
use native.Mathlib.Numerals.{add-one}
use native.Mathlib.Omega.{arith}
use lib.ListN.{length, get_or, drop, set, replicate, length-append, length-replicate, replicate-append-replicate}
use lib.Seq.{drop-cons, set_at, get_or_at}
use Rattle.narrowing.specs.Narrowing.{up_to, filled}
use Rattle.narrowing.proofs.Rising.{up_to_length, up_to_last}

pub filled_none : (rest : List ℕ) → filled 0 [] rest ≡ rest
unfolding filled
filled_none rest = refl

pub filled_whole : (k rest : List ℕ) → filled (length k) k rest ≡ k ++ rest
unfolding filled
filled_whole k rest = let z : length k - length k ≡ 0 = omega arith in rw z

-- zeros between j and k, before the zeros after k, are the zeros after j
pub filled_again : (n : ℕ) (k j rest : List ℕ) → length j ≤ length k → length k ≤ n
    → filled (length k) j (replicate (n - length k) 0 ++ rest) ≡ filled n j rest
unfolding filled
filled_again n k j rest a b =
    let s : (length k - length j) + (n - length k) ≡ n - length j = omega arith in
    rw (← append_assoc {A = ℕ} (replicate (length k - length j) 0), replicate-append-replicate, s)

zeros_more : (m : ℕ) (rest : List ℕ) → replicate m 0 ++ (0 ∷ rest) ≡ replicate (m + 1) 0 ++ rest
zeros_more m rest = rw (← replicate-append-replicate m 1, append_assoc)

module _ (n : ℕ) (k : List ℕ) (h : length k ≤ n) where
  front : List ℕ
  front = k ++ replicate (n - length k) 0

  front_length : length front ≡ n
  unfolding front
  front_length = omega (arith, length-append k (replicate (n - length k) 0), length-replicate {A = ℕ} (n - length k) 0)

  filled_front : (rest : List ℕ) → filled n k rest ≡ front ++ rest
  unfolding filled front
  filled_front rest = sym (append_assoc k (replicate (n - length k) 0) rest)

  -- what stands at n
  pub filled_read : (e : ℕ) (rest : List ℕ) → get_or (filled n k (e ∷ rest)) n 0 ≡ e
  filled_read e rest = rw (filled_front (e ∷ rest)) (get_or_at front e rest 0 n front_length)

  -- a zero stored there
  pub filled_zero : (e : ℕ) (rest : List ℕ) → set (filled n k (e ∷ rest)) n 0 ≡ filled (n + 1) k rest
  unfolding filled front
  filled_zero e rest =
      let s : n - length k + 1 ≡ n + 1 - length k = omega arith in
      rw (filled_front (e ∷ rest), set_at front e rest 0 n front_length, append_assoc k, zeros_more (n - length k) rest, s)

  -- an entry stored after the others
  pub filled_more : (e : ℕ) (rest : List ℕ) → set (filled (n + 1) k rest) (length k) e ≡ filled (n + 1) (k ++ (e ∷ [])) rest
  unfolding filled
  filled_more e rest =
      let s : n + 1 - length k ≡ suc (n - length k) = omega arith in
      let t : n + 1 - length (k ++ (e ∷ [])) ≡ n - length k = omega (arith, length-append k (e ∷ [])) in
      rw (s, t, set_at k 0 (replicate (n - length k) 0 ++ rest) e (length k) refl)
      (sym (append_assoc k (e ∷ []) (replicate (n - length k) 0 ++ rest)))

-- one more of 1 to n
pub up_to_more : (list : List ℕ) (i : ℕ) → i < length list → set (up_to i ++ drop i list) i (i + 1) ≡ up_to (i + 1) ++ drop (i + 1) list
up_to_more list i h =
    rw (add-one, drop-cons list i 0 h, set_at (up_to i) (get_or list i 0) (drop (suc i) list) (suc i) i (up_to_length i), up_to_last i)
    (sym (append_assoc (up_to i) (suc i ∷ []) (drop (suc i) list)))
