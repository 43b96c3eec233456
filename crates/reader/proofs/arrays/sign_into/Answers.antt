use mathlib.Core.Path.{refl, ap}
use Rattle.token.proofs.Handed.{handed}
use Rattle.reader.proofs.Signs.{prefix_inside, sign_refused, sign_read}
use Rattle.reader.proofs.arrays.sign_into.Goals as goal

pub returns-in_err-found : goal.returns-in_err-found
returns-in_err-found c = rw (handed _ _ c.from_residual.ensures.1) (sign_refused _ _ _ _ c.leading_prefix.ensures _ _ c.in_err-found.was)

pub signbox_into-requires : goal.signbox_into-requires
signbox_into-requires c = (
  prefix_inside _ _ _ _ c.leading_prefix.ensures _ c.in_ok-found.was,
  record { codes = ap (λ s. s.codes) c.requires; xs = ap (λ s. s.xs) c.requires; ys = ap (λ s. s.ys) c.requires },
)

pub returns : goal.returns
returns c = sign_read _ _ _ _ c.leading_prefix.ensures _ c.in_ok-found.was _ _ _ refl c.signbox_into.ensures
