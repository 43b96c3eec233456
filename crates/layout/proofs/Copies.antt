-- Numbers copied into an array one after the other, until they fill it.
use Prim.Native.Nat.{ℕ, ◌+◌, ◌-◌, ◌≤◌}
use mathlib.Core.List.{List, [], ◌++◌}
use mathlib.Core.Path.{◌≡◌, refl, sym, ap, ◌∙◌}
use lib.ListN.{length, take, drop, length-replicate}
use lib.Seq.{paste, take-paste, drop-paste, take_all, drop-drop}
use native.Mathlib.Omega.{arith}
use Rattle.token.specs.Padded.{zeros}
use Rattle.token.proofs.PaddedLists.{take_zeros, drop_zeros}
use Rattle.sign.specs.Inner.{Cleared}
use Rattle.sign.proofs.Copies.{copy_length}

-- the first n numbers of an array, and zeros after them
pub record Filled (size n : ℕ) (array front : List ℕ) : Type 0 where
  pub whole : length array ≡ size
  pub is : take n array ≡ front
  pub rest : drop n array ≡ zeros (size - n)

pub filled_none : (size : ℕ) → Filled size 0 (zeros size) []
filled_none size = record { whole = length-replicate size 0; is = refl; rest = let k : size ≡ size - 0 = omega arith in ap zeros k }

pub filled_more : (size at n : ℕ) (d e front s : List ℕ) → Filled size at d front → e ≡ paste d at s (length s) → n ≡ at + length s → n ≤ size
    → Filled size n e (front ++ s)
filled_more size at n d e front s f p q h =
    let w = f.whole in
    let k : size - at ≡ length s + (size - n) = omega arith in
    record {
      whole = copy_length d at s (omega arith) (length s) e p (omega arith) ∙ w;
      is = ap (λ k. take k e) q ∙ ap (take (at + length s)) p ∙ take-paste d at s (length s) (omega arith) (omega arith)
          ∙ (λ i. f.is i ++ take_all (length s) s (omega arith) i);
      rest = ap (λ k. drop k e) q ∙ ap (drop (at + length s)) p ∙ drop-paste d at s (length s) (omega arith) (omega arith)
          ∙ sym (drop-drop (length s) at d) ∙ ap (drop (length s)) (f.rest ∙ ap zeros k) ∙ drop_zeros (length s) (size - n);
    }

pub filled_all : (size : ℕ) (array front : List ℕ) → Filled size size array front → array ≡ front
filled_all size array front f = let w = f.whole in sym (take_all size array (omega arith)) ∙ f.is

-- the places after the front
pub filled_clear : (size n : ℕ) (array front : List ℕ) → Filled size n array front → (room : ℕ) → n + room ≤ size → Cleared array n room
filled_clear size n array front f room h =
    let w = f.whole in
    let k : size - n ≡ room + (size - n - room) = omega arith in
    record { fits = omega arith; is = ap (take room) (f.rest ∙ ap zeros k) ∙ take_zeros room (size - n - room) }
