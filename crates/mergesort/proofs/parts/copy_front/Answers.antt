use Prim.Native.Nat.{ℕ, ◌+◌, ◌≤◌, ◌<◌}
use mathlib.Core.Path.{◌≡◌, refl, ap, ◌∙◌}
use mathlib.Core.List.{List, ◌++◌}
use native.Mathlib.Numerals.{add-one}
use native.Mathlib.Nat.{zero-add}
use native.Mathlib.Omega.{arith}
use lib.ListN.{length, get_or, take, drop, set, length-set}
use lib.Seq.{paste-suc}
use Rattle.mergesort.proofs.parts.copy_front.Goals as goal

-- one more is copied
copied_more : (from before list : List ℕ) (i : ℕ) → list ≡ take i from ++ drop i before → i < length from → i < length before
    → set list i (get_or from i 0) ≡ take (i + 1) from ++ drop (i + 1) before
copied_more from before list i e f b =
    let p = paste-suc before 0 from i 0 (omega (arith, zero-add i)) f in
    ap (λ l. set l i (get_or from i 0)) e ∙ rw (add-one i) (rw (zero-add i, zero-add) at p)

pub loop-i-init : goal.loop-i-init
loop-i-init c = (refl, refl)

pub loop-i-preserved : goal.loop-i-preserved
loop-i-preserved c =
    let inv = c.loop-i.invariant in
    (length-set c.loop-i.to c.loop-i.i _ ∙ inv.0, copied_more _ _ _ _ inv.1 (omega (arith, c.loop-i-test.true, c.requires.0)) (omega (arith, c.loop-i-test.true, c.requires.1)))

pub returns : goal.returns
returns c =
    let end : c.loop-i.i ≡ c.args.n = omega (arith, c.loop-i-test.false) in
    c.loop-i.invariant.1 ∙ ap (λ k. take k c.args.from.now ++ drop k c.args.to.now) end
