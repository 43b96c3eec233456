use Prim.Native.Nat.{ℕ}
use mathlib.Core.Path.{ap, ◌∙◌}
use mathlib.Core.List.{List, ◌++◌, append-nil}
use native.Mathlib.Omega.{arith}
use lib.ListN.{take, drop, replicate, drop_of_length-le}
use lib.Seq.{length-take-le}
use Rattle.linetable.proofs.Filling.{clear_fresh}
use Rattle.sorting.proofs.Sortings.{arranged_listed}
use Rattle.sorting.proofs.arrange_listed.Goals as goal

pub place_lines-requires : goal.place_lines-requires
place_lines-requires c = (c.requires.few, c.requires.counted, clear_fresh)

pub returns : goal.returns
returns c = record {
  list_after =
      ap (λ (k : List ℕ). k ++ drop c.args.n c.args.list.now)
      (c.arrange_entries.ensures.list_after ∙ arranged_listed c.args.set _ _ _ c.place_lines.ensures _ _ _ _ c.requires);
  spare_after =
      ap (λ (k : List ℕ). k ++ drop c.args.n c.args.spare.now)
      (c.arrange_entries.ensures.spare_after
      ∙ ap (λ k. replicate {A = ℕ} k 0 ++ drop k (take c.args.n c.args.spare.now)) (length-take-le c.args.n c.args.list.now c.requires.within)
      ∙ ap (λ (k : List ℕ). replicate c.args.n 0 ++ k) (drop_of_length-le (take c.args.n c.args.spare.now) (omega (arith, length-take-le c.args.n c.args.spare.now c.requires.space)))
      ∙ append-nil (replicate c.args.n 0));
}
