use Rattle.std.proofs.Common.{◌≡◌, ◌-◌, ◌+◌, ◌*◌, ◌++◌, sym, refl, ap, ◌∙◌, length, take, drop, arith, length-append, length-drop, length-take-le}
use Rattle.token.specs.Padded.{padded}
use Rattle.token.proofs.PaddedLists.{padded_length}
use Rattle.grammar.specs.Offsets.{steps}
use Rattle.sign.proofs.Eights.{both_written}
use Rattle.sign.proofs.Stepping.{offsets_many, offsets_few}
use Rattle.sign.proofs.offsets.put_offsets.Goals as goal

pub returns-then-n-gt8 : goal.returns-then-n-gt8
returns-then-n-gt8 c =
    let a = c.args in
    let old = a.places.now in
    let front : c.put_steps.new.places ≡ padded 8 (steps a.first a.size a.n) =
    c.put_steps.ensures ∙ ap (λ k. padded k (steps a.first a.size a.n)) (length-take-le 8 old c.requires.1) in
    let eight : length c.put_steps.new.places ≡ 8 = ap length front ∙ padded_length 8 (steps a.first a.size a.n) in
    let all = c.put_steps.new.places ++ drop 8 old in
    let same : length all ≡ length old = omega (arith, eight, length-append c.put_steps.new.places (drop 8 old), length-drop 8 old, c.requires.1) in
    let left : length (take (length all - 8) (drop 8 all)) ≡ length old - 8 =
    length-take-le (length all - 8) (drop 8 all) (omega (arith, length-drop 8 all)) ∙ ap (λ k. k - 8) same in
    let last : c.put_steps-then-n-gt8.new.places ≡ padded (length old - 8) (steps (a.first + 8 * a.size) a.size (a.n - 8)) =
    c.put_steps-then-n-gt8.ensures ∙ ap (λ k. padded k (steps (a.first + 8 * a.size) a.size (a.n - 8))) left in
    both_written c.put_steps.new.places (drop 8 old) c.put_steps-then-n-gt8.new.places _ eight
    (ap length last ∙ padded_length (length old - 8) (steps (a.first + 8 * a.size) a.size (a.n - 8)) ∙ sym (length-drop 8 old)) refl
    ∙ offsets_many old a.first a.size a.n c.requires.0 c.requires.1 c.put_steps.new.places c.put_steps-then-n-gt8.new.places front last

pub returns-else-n-gt8 : goal.returns-else-n-gt8
returns-else-n-gt8 c =
    let a = c.args in
    let front : c.put_steps.new.places ≡ padded 8 (steps a.first a.size a.n) =
    c.put_steps.ensures ∙ ap (λ k. padded k (steps a.first a.size a.n)) (length-take-le 8 a.places.now c.requires.1) in
    offsets_few a.places.now a.first a.size a.n c.requires.0 c.requires.1 c.if-n-gt8.false c.put_steps.new.places front
