use mathlib.Core.Path.{refl}
use Rattle.arrangement.proofs.Merging.{arranged_few}
use Rattle.mergesort.specs.Inner.{before}
use Rattle.mergesort.proofs.Halves.{arranged_whole, half_most, placed_order}
use Rattle.mergesort.proofs.parts.+arrange_part.Goals as goal

pub returns-then-n-lt2 : goal.returns-then-n-lt2
returns-then-n-lt2 t c = arranged_few _ _ c.if-n-lt2.true

pub returns : goal.returns
returns t c = arranged_whole (before c.args.order.now) (placed_order _ _ _ _) _ _ _ _ _ _ (half_most _) refl c.arrange_part.ensures c.arrange_part-2.ensures c.merge_parts.ensures
