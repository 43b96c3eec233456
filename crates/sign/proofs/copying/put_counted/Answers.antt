use Rattle.std.proofs.Common.{◌≡◌, ◌+◌, ◌-◌, sym, refl, ap, ◌∙◌, length, take, drop, arith}
use Rattle.std.proofs.lemmas.Slice.{put_mid-paste}
use Rattle.sign.proofs.Eights.{counted_few}
use Rattle.sign.proofs.copying.put_counted.Goals as goal

pub returns-else-n-gt8 : goal.returns-else-n-gt8
returns-else-n-gt8 c =
    let to = c.args.to.now in
    let at = c.args.at in
    let from = c.args.from.now in
    let k : at + length from - at ≡ length from = omega arith in
    put_mid-paste at (at + length from - at) to _ from (length from)
    (counted_few (take (at + length from - at) (drop at to)) from c.args.n (ap (λ m. take m (drop at to)) k ∙ c.requires.0.is) c.requires.1 c.requires.2
    c.if-n-gt8.false _ (c.copy_from_slice-2.ensures.after ∙ c.copy_from_slice.ensures.after))
    (sym k) refl
