-- Looking up a line: from its block's first line to it.
use Prim.Native.Nat.{ℕ, zero, suc, ◌+◌, ◌-◌, ◌≤◌, ◌<◌}
use mathlib.Core.Path.{◌≡◌, refl, sym, ◌∙◌}
use mathlib.Core.List.{List}
use native.Mathlib.Omega.{arith}
use lib.ListN.{length, drop}
use borrow.Author.Tests.{lt-ltb, le-ltb}
use Rattle.lines.specs.Lines.{lines, line_start, first_line}
use Rattle.lines.proofs.Starts.{line_at}
use Rattle.linetable.specs.Table.{next_line, lines_on, first_of, start_from}

on_none : (dict : List ℕ) (k a : ℕ) → k ≡ 0 → a ≡ lines_on dict k a
unfolding lines_on
on_none dict k a h = rw h

on_more : (dict : List ℕ) (line e a : ℕ) → line < e → lines_on dict (e - line) a ≡ lines_on dict (e - (line + 1)) (next_line dict a)
unfolding lines_on
on_more dict line e a h =
    let s : e - line ≡ suc (e - (line + 1)) = omega arith in
    rw s

-- walking from line j to line j + k
pub on_start : (dict : List ℕ) (k j a : ℕ) → 1 ≤ j → j + k ≤ length (lines dict) → a ≡ line_start dict j → lines_on dict k a ≡ line_start dict (j + k)
unfolding lines_on
on_start dict zero j a l h s =
    let z : j + 0 ≡ j = omega arith in
    rw z s
on_start dict (suc k) j a l h s =
    let line = line_at dict j a l (omega arith) s (a + length (first_line (drop a dict))) refl in
    let next : next_line dict a ≡ line_start dict (j + 1) = omega (arith, line.high, line.next) in
    let z : j + suc k ≡ j + 1 + k = omega arith in
    rw z (on_start dict k (j + 1) (next_line dict a) (omega arith) (omega arith) next)

-- The walk in the code: what is left of it leads to the same place.
pub record Walking (dict : List ℕ) (base e at line : ℕ) : Type 0 where
  pub within : at ≤ length dict
  pub same : lines_on dict (e - line) at ≡ lines_on dict (e - first_of e) base

pub walking_start : (dict : List ℕ) (base e line : ℕ) → base ≤ length dict → line ≡ first_of e → Walking dict base e base line
walking_start dict base e line h s = record { within = h; same = rw s }

module _ {dict : List ℕ} {base e at line : ℕ} (w : Walking dict base e at line) where
  pub walking_on : line < e → (next : ℕ) → next ≡ next_line dict at → Walking dict base e next (line + 1)
  walking_on h next s = record { within = omega arith; same = rw s (sym (on_more dict line e at h) ∙ w.same) }

  pub walking_end : e ≤ line → at ≡ lines_on dict (e - first_of e) base
  walking_end h = on_none dict (e - line) at (omega arith) ∙ w.same

-- A kept offset, near or far
module _ (dict : List ℕ) (base offset e : ℕ) where
  pub start_near : offset < 65535 → base + offset ≡ start_from dict base offset e
  unfolding start_from
  start_near h = rw (lt-ltb offset 65535 h)

  pub start_far : 65535 ≤ offset → lines_on dict (e - first_of e) base ≡ start_from dict base offset e
  unfolding start_from
  start_far h = rw (le-ltb offset 65535 h)
