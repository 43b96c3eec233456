use Rattle.std.specs.Prelude.{◌≡◌, ◌<◌, ◌∷◌, ◌+◌, ◌++◌, suc, [], length, take}
use mathlib.Core.Path.{refl, sym, ap, ◌∙◌}
use Rattle.std.proofs.Common.{rules}
use Rattle.std.proofs.Math.ListN.{set, length-set}
use Rattle.std.proofs.Math.Seq.{take-suc, take-suc-set, take_all}
use native.Mathlib.Omega.{arith}
use Rattle.layout.proofs.verdicts.met.Goals as goal

pub loop-i-init : goal.loop-i-init
loop-i-init c = (refl, refl)

-- one more witness stands behind the first four numbers
pub loop-i-preserved : goal.loop-i-preserved
loop-i-preserved c =
    let i = c.loop-i.i in
    let w = c.args.witnesses in
    let inv = c.loop-i.invariant in
    let size : length w ≡ 32 = search rules in
    let inside : 4 + i < length c.loop-i.all = omega (arith, inv.0, c.loop-i-test.true) in
    let up : 4 + (i + 1) ≡ suc (4 + i) = omega arith in
    let on : i + 1 ≡ suc i = omega arith in (
      length-set c.loop-i.all (4 + i) c.from.result ∙ inv.0,
      ap (λ k. take k (set c.loop-i.all (4 + i) c.from.result)) up
          ∙ take-suc-set c.loop-i.all (4 + i) c.from.result inside
          ∙ ap (λ l. l ++ (c.from.result ∷ [])) inv.1
          ∙ ap (λ l. 0 ∷ 0 ∷ 1 ∷ 0 ∷ l) (ap (λ v. take i w ++ (v ∷ [])) c.from.ensures ∙ sym (take-suc w i 0 (omega (arith, size, c.loop-i-test.true))) ∙ sym (ap (λ k. take k w) on)),
    )

pub returns : goal.returns
returns c =
    let i = c.loop-i.i in
    let w = c.args.witnesses in
    let inv = c.loop-i.invariant in
    let size : length w ≡ 32 = search rules in
    let end : i ≡ 32 = omega (arith, c.loop-i-test.false) in
    sym (take_all (4 + i) c.loop-i.all (omega (arith, inv.0, end)))
    ∙ inv.1
    ∙ ap (λ l. 0 ∷ 0 ∷ 1 ∷ 0 ∷ l) (take_all i w (omega (arith, size, end)))
