-- A styling string that stands at an offset of a text, and the same by itself.
use Prim.Native.Nat.{ℕ, ◌+◌, ◌-◌, ◌≤◌}
use mathlib.Core.List.{List}
use mathlib.Core.Path.{◌≡◌, refl, sym, ap, ◌∙◌}
use mathlib.Core.Bool.{Bool, true, false}
use lib.Dec.{eqb}
use lib.ListN.{length, take, drop, length-drop, length-append}
use lib.Seq.{take_all}
use native.Mathlib.Omega.{arith}
use borrow.Author.Tests.{eq-eqb, ne_eqb, le-ltb, eqb-true}
use Rattle.std.proofs.lemmas.Bool.{eqb-false}
use Rattle.format.specs.Format.{Answer, value, other, wrong, short}
use Rattle.format.specs.Places.{Outcome, fine, refused, ends_short, reading}
use Rattle.format.specs.Located.{found, located, locate, ended}
use Rattle.format.proofs.Lawful.{Says}
use Rattle.format.proofs.Exact.{Fails}
use Rattle.format.proofs.Ends.{reading_at}
use Rattle.token.specs.Result.{of_outcome}
use Rattle.stylinggrammar.specs.Styling.{Spelling, styling}
use Rattle.stylinggrammar.proofs.Styling.{styling_exact, styling_lawful}
use Rattle.stylingreader.specs.Reading.{styling_from}

-- by itself
pub from_start : (u : List ℕ) → styling_from u 0 ≡ of_outcome (length u) (reading 1 styling u)
unfolding styling_from
from_start u = ap (of_outcome (length u)) (sym (reading_at 1 styling styling_lawful u))

-- at an offset: what is wrong is wrong so many bytes later
abbrev pub shifted : {A : Type 0} → ℕ → Outcome A → Outcome A
shifted at (fine a) = fine a
shifted at (refused p) = refused (at + p)
shifted at ends_short = ends_short

module _ (at : ℕ) where
  end_go : (t : Spelling) (n m i j : ℕ) → n ≡ at + m → i ≡ at + j → j ≤ m → (b : Bool) → eqb j m ≡ b → ended 1 n (found t i) ≡ shifted at (ended 1 m (found t j))
  end_go t n m i j x y l true e = let q : j ≡ m = eqb-true j m e in rw (eq-eqb i n (omega arith), e)
  end_go t n m i j x y l false e =
      let q = eqb-false j m e in
      rw (ne_eqb i n (λ z. q (omega arith)), e, le-ltb n (i + 1) (omega (arith, q)), le-ltb m (j + 1) (omega (arith, q))) (ap refused y)

module _ (s : List ℕ) (at : ℕ) (h : at ≤ length s) where
  offset_go : (r : Answer Spelling) → Says styling (drop at s) r → Fails 1 styling (drop at s) r
      → ended 1 (length s) (located (length s) at r) ≡ shifted at (ended 1 (length (drop at s)) (located (length (drop at s)) 0 r))
  offset_go (value t rest) x y =
      end_go at t (length s) (length (drop at s)) (length s - length rest) (length (drop at s) - length rest) (omega (arith, length-drop at s))
      (omega (arith, length-drop at s, ap length x.0, length-append (styling.write t) rest)) (omega arith) (eqb (length (drop at s) - length rest) (length (drop at s))) refl
  offset_go other x y = ap refused (omega arith)
  offset_go (wrong rest) x y = ap refused (omega (arith, ap length y.splits, length-append y.front rest, length-drop at s))
  offset_go short x y = refl

  pub from_offset : styling_from s at ≡ of_outcome (length s) (shifted at (reading 1 styling (drop at s)))
  unfolding styling_from locate
  from_offset =
      ap (of_outcome (length s))
      (offset_go (styling.read (drop at s)) (styling_lawful.says (drop at s)) (styling_exact.fails (drop at s))
      ∙ ap (shifted at) (sym (reading_at 1 styling styling_lawful (drop at s))))

-- the part of a text that is lent on
pub rest_part : (s : List ℕ) (at : ℕ) → take (length s - at) (drop at s) ≡ drop at s
rest_part s at = take_all (length s - at) (drop at s) (omega (arith, length-drop at s))
