use Rattle.std.proofs.Common.{ap, sym, ◌∙◌, take, arith, position}
use Rattle.token.specs.Result.{done}
use Rattle.writer.specs.Arrays.{upto, symbol_at}
use Rattle.bounds.specs.Boxes.{groups_of}
use Rattle.bounds.proofs.Measuring.{codes_in_range, is_unsized, measured_7, measured_9, measured_8, measured_done}
use Rattle.bounds.proofs.measure.measure.Goals as goal

pub returns-in_default : goal.returns-in_default
returns-in_default c = sym (measured_7 c.args.sizes.now c.args.symbols.now c.args.n c.in_default.ensures.cases)

pub returns-then-n-eq0 : goal.returns-then-n-eq0
returns-then-n-eq0 c = sym (measured_9 c.args.sizes.now c.args.symbols.now c.args.n c.in-Some.ensures.cases.long c.if-n-eq0.true)

pub first_unsized-requires : goal.first_unsized-requires
first_unsized-requires c = codes_in_range c.args.symbols.now c.args.n (omega arith) c.requires.1

pub returns-in-Some-first_unsized : goal.returns-in-Some-first_unsized
returns-in-Some-first_unsized c =
    let a = c.args in
    let array = c.in-Some.ensures.cases in
    let is = c.first_unsized.ensures.place ∙ ap (λ s. position (is_unsized s) (take a.n a.symbols.now.codes)) array.same in
    sym (measured_8 a.sizes.now a.symbols.now a.n array.long c.if-n-eq0.false (omega arith) _ is _ c.in-Some-first_unsized.is)

pub returns : goal.returns
returns c =
    let a = c.args in
    let array = c.in-Some.ensures.cases in
    let is = c.first_unsized.ensures.place ∙ ap (λ s. position (is_unsized s) (take a.n a.symbols.now.codes)) array.same in
    let groups = c.groups_of.ensures ∙ ap (λ s. groups_of s (upto (symbol_at a.symbols.now) a.n)) array.same in
    ap done groups ∙ sym (measured_done a.sizes.now a.symbols.now a.n array.long c.if-n-eq0.false (omega arith) _ is c.in_default-first_unsized.is)
