use Prim.Native.Nat.{ℕ}
use mathlib.Core.Path.{◌≡◌, sym, ap, ◌∙◌}
use mathlib.Core.List.{List}
use native.Mathlib.Omega.{arith}
use lib.IntN.{ℤ}
use mir.Syntax.{w64}
use mir.Val.{SFits, to_z, of_z}
use mir.Facts.{to_z-of_z}
use Rattle.std.specs.Prelude.{Result as Answer, Ok, Err}
use Rattle.token.specs.declared.refusal.Refusal.{Refusal}
use Rattle.token.specs.Result.{as_written, written, output}
use Rattle.token.proofs.Handed.{handed}
use Rattle.writer.proofs.Answers.{answers_refused}
use Rattle.moving.specs.declared.writing.Moved.{Moved}
use Rattle.moving.specs.Inner.{moved_axis}
use Rattle.moving.proofs.Writings.{leaves_x, leaves_y, still_valid, text_is}
use Rattle.moving.proofs.writing.write_moved.Goals as goal

-- what moving an axis by z came to
went : {z : ℤ} {r q : Answer Moved Refusal} (most n : ℕ) (values : List ℕ) → SFits w64 z → r ≡ moved_axis (to_z w64 (of_z w64 z)) most n values → r ≡ q → moved_axis z most n values ≡ q
went most n values fits e was = ap (λ y. moved_axis y most n values) (sym (to_z-of_z fits)) ∙ sym e ∙ was

pub returns-in_err-across : goal.returns-in_err-across
returns-in_err-across c =
    let a = c.args in
    let h = a.head in
    let s = a.symbols.now in
    let across = went h.max_x h.symbol_count s.xs c.ranges.x c.move_axis.ensures c.in_err-across.was in
    let left = leaves_x a.set a.x a.y h s c.in_err-across.field-0.0 across in
    let answers = answers_refused a.out.now left.1 in
    record { answer = ap as_written (handed _ _ c.from_residual.ensures.1 ∙ ap Err left.0) ∙ answers.answer; memory = answers.memory }

pub returns-in_err-down : goal.returns-in_err-down
returns-in_err-down c =
    let a = c.args in
    let h = a.head in
    let s = a.symbols.now in
    let across = went h.max_x h.symbol_count s.xs c.ranges.x c.move_axis.ensures c.in_ok-across.was in
    let down = went {q = Err c.in_err-down.field-0.0} h.max_y h.symbol_count s.ys c.ranges.y c.move_axis-2.ensures (grind arith) in
    let left = leaves_y a.set a.x a.y h s c.in_ok-across.across across c.in_err-down.field-0.0 down in
    let answers = answers_refused a.out.now left.1 in
    record { answer = ap as_written (handed _ _ c.from_residual-in_err-down.ensures.1 ∙ ap Err left.0) ∙ answers.answer; memory = answers.memory }

pub write_sign-requires : goal.write_sign-requires
write_sign-requires c =
    let a = c.args in
    let h = a.head in
    let s = a.symbols.now in
    let across = went h.max_x h.symbol_count s.xs c.ranges.x c.move_axis.ensures c.in_ok-across.was in
    let down = went {q = Ok c.in_ok-down.down} h.max_y h.symbol_count s.ys c.ranges.y c.move_axis-2.ensures (grind arith) in
    (c.requires.0, c.requires.1, still_valid a.set a.x a.y h s c.in_ok-across.across across c.in_ok-down.down down (omega arith) (omega arith) c.requires.2)

pub returns : goal.returns
returns c =
    let a = c.args in
    let h = a.head in
    let s = a.symbols.now in
    let across = went h.max_x h.symbol_count s.xs c.ranges.x c.move_axis.ensures c.in_ok-across.was in
    let down = went {q = Ok c.in_ok-down.down} h.max_y h.symbol_count s.ys c.ranges.y c.move_axis-2.ensures (grind arith) in
    let text = text_is a.set a.x a.y h s c.in_ok-across.across across c.in_ok-down.down down (omega arith) (omega arith) in
    record { answer = c.write_sign.ensures.answer ∙ ap (written a.out.now) text; memory = c.write_sign.ensures.memory ∙ ap (output a.out.now) text }
