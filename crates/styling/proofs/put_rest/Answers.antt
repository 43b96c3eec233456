use Prim.Native.Nat.{ℕ, ◌+◌, ◌≤◌}
use mathlib.Core.Path.{◌≡◌, refl, sym, ap, ◌∙◌}
use mathlib.Core.List.{List, ◌++◌}
use native.Mathlib.Omega.{arith}
use lib.ListN.{length, get_or, take, set, length-set}
use lib.Seq.{paste, paste-zero, length-paste, take-paste, drop-paste, take_all}
use Rattle.std.proofs.lemmas.List.Edits.{paste_more}
use Rattle.token.specs.Wrote.{Wrote}
use Rattle.styling.proofs.put_rest.Goals as goal

-- all are put
wrote_paste : (before after s : List ℕ) (at n : ℕ) → after ≡ paste before at s n → n ≡ length s → at + length s ≤ length before
    → Wrote before after at (at + length s) s
wrote_paste before after s at n e l h =
    let p = e ∙ ap (paste before at s) l in
    record {
      next = refl;
      room = h;
      same = ap length p ∙ length-paste before at s (length s) (omega arith) (omega arith);
      front = ap (take (at + length s)) p ∙ take-paste before at s (length s) (omega arith) (omega arith)
          ∙ ap (λ l. take at before ++ l) (take_all (length s) s (omega arith));
      rest = ap (lib.ListN.drop (at + length s)) p ∙ drop-paste before at s (length s) (omega arith) (omega arith);
    }

pub loop-i-init : goal.loop-i-init
loop-i-init c = (refl, paste-zero c.args.out.now c.args.at c.args.s.now)

pub loop-i-preserved : goal.loop-i-preserved
loop-i-preserved c =
    let inv = c.loop-i.invariant in (
      length-set c.loop-i.out _ _ ∙ inv.0,
      ap (λ l. set l (c.args.at + c.loop-i.i) (get_or c.args.s.now c.loop-i.i 0)) inv.1
          ∙ paste_more c.args.out.now c.args.at c.args.s.now c.loop-i.i 0 (omega (arith, c.loop-i-test.true, c.requires)) c.loop-i-test.true,
    )

pub returns : goal.returns
returns c =
    let end : c.loop-i.i ≡ length c.args.s.now = omega (arith, c.loop-i-test.false) in
    wrote_paste _ _ _ _ _ c.loop-i.invariant.1 end c.requires
