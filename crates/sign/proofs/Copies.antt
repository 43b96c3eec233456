-- Numbers copied into an array.
use Rattle.std.proofs.Common.{◌≡◌, ℕ, ◌+◌, ◌≤◌, List, length, ap, ◌∙◌, arith}
use lib.Seq.{paste, length-paste}

-- it keeps its length
pub copy_length : (d : List ℕ) (at : ℕ) (s : List ℕ) → at + length s ≤ length d → (i : ℕ) (e : List ℕ) → e ≡ paste d at s i → i ≤ length s → length e ≡ length d
copy_length d at s room i e p h = ap length p ∙ length-paste d at s i (omega arith) h
