use mathlib.Core.Path.{refl, sym, ap, ◌∙◌}
use Prim.Native.Nat.{◌≤◌}
use lib.ListN.{length}
use lib.Seq.{length-take-le}
use native.Mathlib.Omega.{arith}
use Rattle.writer.proofs.Answers.{answers_short, answers_done}
use Rattle.writer.proofs.Writes.{wrote_as}
use Rattle.writer.specs.Arrays.{meaning_in, prefix_text}
use Rattle.writer.proofs.Upto.{upto_length, upto_take}
use Rattle.writer.proofs.SignWrites.{marker_size_lem, point_size, prefix_length, sign_length, sign_put}
use Rattle.writer.proofs.arrays.write_sign.Goals as goal

pub returns-then-out-size : goal.returns-then-out-size
returns-then-out-size c = answers_short _ refl (c.sign_size-size.ensures ∙ sign_length c.args.set c.requires.2 (upto_length _ _) (upto_length _ _)) c.if-out-size.true

pub put_prefix-a-requires : goal.put_prefix-a-requires
put_prefix-a-requires c =
    let a = c.args in
    let h : a.head.prefix_count ≤ length a.symbols.now.prefix = omega arith in
    (rw (length-take-le a.head.prefix_count a.symbols.now.prefix h) (omega arith), rw (← upto_take a.symbols.now.prefix a.head.prefix_count h) c.requires.2.prefix)

pub put_marker-b-requires : goal.put_marker-b-requires
put_marker-b-requires c =
    let a = c.args in
    let e = prefix_length a.set a.symbols.now.prefix a.head.prefix_count (omega arith) in
    (omega arith, c.requires.2.marker.1)

pub put_point-c-requires : goal.put_point-c-requires
put_point-c-requires c =
    let a = c.args in
    let e = prefix_length a.set a.symbols.now.prefix a.head.prefix_count (omega arith) in
    let f = marker_size_lem a.set a.head.marker in
    (omega arith, c.requires.2.maximum)

pub put_symbols-requires : goal.put_symbols-requires
put_symbols-requires c =
    let a = c.args in
    let e = prefix_length a.set a.symbols.now.prefix a.head.prefix_count (omega arith) in
    let f = marker_size_lem a.set a.head.marker in
    let g = point_size a.set a.head.max_x a.head.max_y in
    (c.requires.1, omega arith, c.requires.2.symbols)

pub returns : goal.returns
returns c =
    let a = c.args in
    let prefix = wrote_as c.put_prefix-a.ensures (ap (prefix_text a.set) (sym (upto_take a.symbols.now.prefix a.head.prefix_count (omega arith)))) in
    answers_done refl (sign_put a.set (meaning_in a.head a.symbols.now) prefix c.put_marker-b.ensures c.put_point-c.ensures c.put_symbols.ensures)
