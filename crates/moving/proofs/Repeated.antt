-- Centring again what a call of centring wrote.
use Prim.Native.Nat.{ℕ, ◌≤◌}
use mathlib.Core.Path.{◌≡◌}
use mathlib.Core.Bool.{◌&&◌}
use mathlib.Core.List.{List}
use native.Mathlib.Omega.{arith}
use lib.Dec.{lit<}
use lib.IntN.{ℤ}
use lib.ListN.{length}
use Rattle.format.specs.Format.{every}
use Rattle.charset.specs.declared.Charset.{Charset}
use Rattle.grammar.specs.Sign.{Meaning, sign_text}
use Rattle.token.specs.Refusal.{number_outside}
use Rattle.token.specs.Result.{and_then, written, Leaves, Unchanged}
use Rattle.token.proofs.Checks.{Counted, done_counted, check_counted, on_done_counted, and_then_counted}
use Rattle.writer.proofs.Answers.{Accepted, accepted, leaves, left_again}
use Rattle.reader.specs.Signs.{sign_of}
use Rattle.reader.proofs.Limits.{sign_counted}
use Rattle.bounds.specs.Sizes.{measured}
use Rattle.bounds.specs.Centre.{doubled_of}
use Rattle.bounds.proofs.Measuring.{measured_counted}
use Rattle.moving.specs.Moves.{stays, xs_of, ys_of, moved_meaning, moved_sign, to_middle, restated, centred_by, centred_sign, centred_text}
use Rattle.moving.specs.MovingLaws.{centred_in}
use Rattle.moving.proofs.Recentred.{again}

pub moved_counted : (dx dy : ℤ) (m : Meaning) → Counted (moved_sign dx dy m)
unfolding moved_sign
moved_counted dx dy m =
    check_counted (every (stays dx) (xs_of m) && every (stays dy) (ys_of m)) number_outside 0 _ (lit< tt) (done_counted (moved_meaning dx dy m))

pub counted : (set : Charset) (sizes text : List ℕ) → Counted (centred_text set text sizes)
unfolding centred_text centred_sign
counted set sizes text =
    on_done_counted (sign_text set) (and_then (sign_of set text) (centred_sign sizes))
    (and_then_counted (sign_of set text) (centred_sign sizes) (sign_counted set text)
    λ m. and_then_counted (measured sizes m.symbols) (centred_by m) (measured_counted sizes m.symbols)
    λ g. moved_counted (to_middle (doubled_of g).x) (to_middle (doubled_of g).y) (restated g m))

module _ (set : Charset) (sizes text out : List ℕ) (h : (written out (centred_text set text sizes)).number ≡ 0) where
  first : Accepted out (centred_text set text sizes)
  first = accepted out (centred_text set text sizes) (counted set sizes text) h

  pub repeated : (room : List ℕ) → length out ≤ length room → Leaves room (centred_text set (centred_in set text sizes out) sizes) (centred_in set text sizes out)
  repeated room l = rw first.front (leaves room (again set sizes text first.text first.is) (omega (arith, first.fits, l)))

  pub unchanged : Unchanged out (centred_text set text sizes) (centred_text set (centred_in set text sizes out) sizes)
  unchanged = rw first.front (left_again out first.is (again set sizes text first.text first.is) first.fits)
