-- What a line asks, by its first byte.
use Prim.Native.Nat.{ℕ, ◌-◌, ◌≤◌}
use mathlib.Core.Path.{◌≡◌, refl}
use mathlib.Core.List.{List, [], ◌∷◌}
use native.Mathlib.Omega.{arith}
use borrow.Author.Tests.{ne_eqb}
use borrow.Author.Rules.{part_to_end}
use lib.ListN.{length, get_or, take, drop}
use Rattle.charset.specs.declared.Charset.TheVariants.{Fsw, Swu}
use Rattle.querygrammar.specs.declared.Edition.TheVariants.{First, Second}
use Rattle.runs.specs.Runs.{asking}

module _ (line : List ℕ) where
  pub f_fsw : 1 ≤ length line → get_or line 0 0 ≡ 70 → (Second Fsw, take (length line - 1) (drop 1 line)) ≡ asking line
  unfolding asking
  f_fsw h e = rw (part_to_end line 1) (go line h e)
    where
      go : (line : List ℕ) → 1 ≤ length line → get_or line 0 0 ≡ 70 → (Second Fsw, drop 1 line) ≡ asking line
      go [] h e = absurd (omega arith)
      go (b ∷ line) h e = rw e

  pub s_swu : 1 ≤ length line → get_or line 0 0 ≡ 83 → (Second Swu, take (length line - 1) (drop 1 line)) ≡ asking line
  unfolding asking
  s_swu h e = rw (part_to_end line 1) (go line h e)
    where
      go : (line : List ℕ) → 1 ≤ length line → get_or line 0 0 ≡ 83 → (Second Swu, drop 1 line) ≡ asking line
      go [] h e = absurd (omega arith)
      go (b ∷ line) h e = rw e

pub none_first : (line : List ℕ) → length line ≡ 0 → (First, line) ≡ asking line
unfolding asking
none_first [] z = refl
none_first (b ∷ line) z = absurd (omega arith)

pub else_first : (line : List ℕ) → (get_or line 0 0 ≡ 70 → ⊥) → (get_or line 0 0 ≡ 83 → ⊥) → (First, line) ≡ asking line
unfolding asking
else_first [] f s = refl
else_first (b ∷ line) f s = rw (ne_eqb b 70 f, ne_eqb b 83 s)
