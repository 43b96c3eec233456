use mathlib.Core.Path.{ap, ◌∙◌}
use Rattle.sign.proofs.Readings.{laid, reading_done, reading_refused}
use Rattle.layout.specs.Layouts.{reading_numbers, sign_left}
use Rattle.halofret.proofs.Left.{when_refused}
use Rattle.halofret.proofs.signs.halofret_read.Goals as goal

pub put_sign-requires : goal.put_sign-requires
put_sign-requires c = laid _ _ _ _ c.read_into.ensures _ c.in-Ok.is

pub returns-in-Ok : goal.returns-in-Ok
returns-in-Ok c =
    let k = reading_done _ _ _ _ c.read_into.ensures _ c.in-Ok.is in
    rw (← c.set_of-set.ensures) (record { answer = ap reading_numbers k; memory = c.put_sign.ensures ∙ ap (sign_left c.args.sign.now) k })

pub returns-in-Err : goal.returns-in-Err
returns-in-Err c =
    let k = reading_refused _ _ _ _ c.read_into.ensures _ c.in-Err.is in
    rw (← c.set_of-set.ensures) (record { answer = c.refused.ensures ∙ ap reading_numbers k; memory = when_refused c.in-Err.e _ _ ∙ ap (sign_left c.args.sign.now) k })
