use Prim.Native.Nat.{◌+◌}
use mathlib.Core.Path.{◌≡◌}
use native.Mathlib.Omega.{arith}
use Rattle.narrowing.specs.Run.{next_count}
use Rattle.runs.proofs.Running.{next_refused}
use Rattle.runs.proofs.after_call.Goals as goal

pub returns-in-Ok : goal.returns-in-Ok
unfolding next_count
returns-in-Ok c = rw c.in-Ok.is

pub returns-in-Err : goal.returns-in-Err
returns-in-Err c =
    let none : c.args.left.dropped ≡ c.args.left.dropped + 0 = omega arith in
    rw (c.in-Err.is, next_refused c.args.left.kept c.in-Err.field-0) (λ i. record { kept = c.args.left.kept; dropped = none i })
