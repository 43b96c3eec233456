use mathlib.Core.Path.{refl, ap, ◌∙◌}
use Rattle.std.specs.Prelude.{Err}
use Rattle.styling.proofs.Entries.{place_inside, ready, laid, reading_done, reading_refused}
use Rattle.layout.specs.Layouts.{reading_numbers, sign_left}
use Rattle.halofret.proofs.Left.{when_refused}
use Rattle.halofret.proofs.stylings.halofret_read_styled.Goals as goal

pub put_sign-requires : goal.put_sign-requires
put_sign-requires c = laid _ _ _ _ _ c.in-Ok.ensures.sign

pub slice_bounds-fill-count : goal.slice_bounds-fill-count
slice_bounds-fill-count c = place_inside _ _ _ _ _ c.in-Ok.ensures.sign

pub slice_bounds-fill-start : goal.slice_bounds-fill-start
slice_bounds-fill-start c = place_inside _ _ _ _ _ c.in-Ok.ensures.sign

pub fill-requires : goal.fill-requires
fill-requires c = ready _ _ _ _ _ c.in-Ok.ensures.sign _ c.in-Ok.ensures.styling

pub returns-in-Ok : goal.returns-in-Ok
returns-in-Ok c =
    let k = reading_done _ _ _ _ _ c.in-Ok.ensures.sign c.args.styling.now _ _ refl c.fill.ensures in
    rw (← c.set_of-set.ensures)
    (record { answer = ap reading_numbers k.answer; memory = c.put_sign.ensures ∙ ap (sign_left c.args.sign.now) k.answer; styles = k.memory })

pub returns-in-Err : goal.returns-in-Err
returns-in-Err c =
    let k = reading_refused _ _ _ _ c.in-Err.ensures.sign c.args.styling.now (Err c.in-Err.e) refl in
    rw (← c.set_of-set.ensures)
    (record {
      answer = c.refused.ensures ∙ ap reading_numbers k.answer;
      memory = when_refused c.in-Err.e _ _ ∙ ap (sign_left c.args.sign.now) k.answer;
      styles = k.memory;
    })
