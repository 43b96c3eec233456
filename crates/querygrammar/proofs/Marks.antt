-- The marks after the character of a symbol in SWU: exact, and what may follow them.
use Prim.Native.Nat.{ℕ, zero, suc}
use mathlib.Core.List.{List, [], ◌∷◌, ◌++◌}
use mathlib.Core.Path.{◌≡◌, refl}
use mathlib.Core.Option.{Option, none, some}
use native.Mathlib.Omega.{arith}
use Rattle.format.specs.Format.{Answer, value, other, wrong, short, first, second, maybe, optional}
use Rattle.format.proofs.Exact.{Exact}
use Rattle.format.proofs.ExactParts.{sequence_exact, optional_exact}
use Rattle.format.proofs.Delimited.{Firm, unit_alone, value_wrong, short_wrong}
use Rattle.charset.specs.Bytes.{byte_of, byte}
use Rattle.charset.proofs.Coding.{byte_exact}
use Rattle.charset.proofs.FixedByte.{Not, byte_absent}
use Rattle.querygrammar.specs.Spelling.{marks}
use Rattle.querygrammar.proofs.Opens.{nothing_exact, nothing_firm}
use Rattle.querygrammar.proofs.Lists.{Starts, starts_not, Unmarked}

pub marks_exact : (c : ℕ) → Exact 1 (marks c)
marks_exact zero = nothing_exact (none, none) 1 (omega arith)
marks_exact (suc c) =
    sequence_exact 1 (optional (byte 102)) (λ f. optional (byte 114)) (optional_exact 1 (byte 102) (byte_exact 102)) λ f ok. optional_exact 1 (byte 114) (byte_exact 114)

-- a mark is there or not, so nothing in them is wrong
alone : (b : ℕ) (text rest : List ℕ) → (byte b).read text ≡ wrong rest → ⊥
alone b = unit_alone 1 (byte_of λ a. a) (λ a. a ∷ []) b b

last_mark : {C : Type 0} (c : Option ℕ → C) (text rest : List ℕ) (r : Answer ℕ) → (byte 114).read text ≡ r
    → second c text (maybe none text r λ a left. value (some a) left) ≡ wrong rest → ⊥
last_mark c text rest (value a left) z e = value_wrong e
last_mark c text rest other z e = value_wrong e
last_mark c text rest (wrong left) z e = alone 114 text left z
last_mark c [] rest short z e = value_wrong e
last_mark c (b ∷ text) rest short z e = short_wrong e

first_mark : (text rest : List ℕ) (r : Answer ℕ) → (byte 102).read text ≡ r
    → first {C = Option ℕ × Option ℕ} (maybe none text r λ a left. value (some a) left) (λ f left. second (λ m. (f, m)) left ((optional (byte 114)).read left)) ≡ wrong rest → ⊥
first_mark text rest (value a left) z e = last_mark (λ m. (some a, m)) left rest ((byte 114).read left) refl e
first_mark text rest other z e = last_mark (λ m. (none, m)) text rest ((byte 114).read text) refl e
first_mark text rest (wrong left) z e = alone 102 text left z
first_mark [] rest short z e = value_wrong e
first_mark (b ∷ text) rest short z e = short_wrong e

pub marks_firm : (c : ℕ) → Firm (marks c)
marks_firm zero text rest e = nothing_firm (none, none) text rest e
marks_firm (suc c) text rest e = absurd (first_mark text rest ((byte 102).read text) refl e)

mark_follow : (b : ℕ) (o : Option ℕ) (rest : List ℕ) → Not b rest → (optional (byte b)).Follow o rest
mark_follow b none rest p = byte_absent b rest p
mark_follow b (some v) rest p = tt

-- after the f comes an r, or what comes after both
mark_starts : (o : Option ℕ) (rest : List ℕ) → (optional (byte 114)).Valid o → Starts Unmarked rest → Not 102 ((optional (byte 114)).write o ++ rest)
mark_starts none rest ok p = starts_not 102 rest (λ x k. k.0) p
mark_starts (some v) rest ok p = λ e. omega (arith, ok.0, e)

pub marks_follow : (c : ℕ) (m : Option ℕ × Option ℕ) (rest : List ℕ) → (marks c).Valid m → Starts Unmarked rest → (marks c).Follow m rest
marks_follow zero m rest ok p = tt
marks_follow (suc c) m rest ok p =
    (mark_follow 114 m.1 rest (starts_not 114 rest (λ x k. k.1) p), mark_follow 102 m.0 ((optional (byte 114)).write m.1 ++ rest) (mark_starts m.1 rest ok.1 p))
