use native.Mathlib.Omega.{arith}
use Rattle.charset.specs.Tokens.{base, key_of, parts_of}
use Rattle.token.proofs.Told.{Told, hands_on}
use Rattle.token.proofs.Keys.{base_told, turn_told, base_fails, turn_fails, symbol_told}
use Rattle.token.proofs.reading.key_at.Goals as goal

pub returns-in_err-b : goal.returns-in_err-b
returns-in_err-b c =
    hands_on _ c.three_at.result _ _ c.from_residual.ensures.1 (grind arith)
    (base_fails 0x100 c.args.top 0x5f key_of parts_of _ c.requires.1 (omega arith) _ _ _ c.three_at.ensures)

pub returns-in_err-t : goal.returns-in_err-t
returns-in_err-t c =
    let base_is : let a = c.args in Told 3 (base 0x100 a.top) a.s.now a.at c.in_ok-b.b = base_told 0x100 c.args.top c.requires.1 (omega arith) _ _ c.in_ok-b.b _ c.three_at.ensures (grind arith) in
    hands_on _ _ _ _ c.from_residual-in_err-t.ensures.1 c.in_err-t.was
    (turn_fails 0x100 c.args.top 0x5f key_of parts_of _ c.requires.1 (omega arith) _ _ _ _ base_is c.two_at.ensures)

pub overflow_sub-result : goal.overflow_sub-result
overflow_sub-result c =
    (base_told 0x100 c.args.top c.requires.1 (omega arith) _ _ c.in_ok-b.b _ c.three_at.ensures (grind arith)).valid.0

pub overflow_mul-result : goal.overflow_mul-result
overflow_mul-result c =
    omega (arith, (base_told 0x100 c.args.top c.requires.1 (omega arith) _ _ c.in_ok-b.b _ c.three_at.ensures (grind arith)).valid.1)

pub overflow_add-result : goal.overflow_add-result
overflow_add-result c =
    let v = (base_told 0x100 c.args.top c.requires.1 (omega arith) _ _ c.in_ok-b.b _ c.three_at.ensures (grind arith)).valid in
    omega (arith, v.1, (turn_told 0x5f (omega arith) _ _ _ _ c.two_at.ensures c.in_ok-t.was).valid.1)

pub overflow_add-result-2 : goal.overflow_add-result-2
overflow_add-result-2 c =
    let v = (base_told 0x100 c.args.top c.requires.1 (omega arith) _ _ c.in_ok-b.b _ c.three_at.ensures (grind arith)).valid in
    omega (arith, v.1, (turn_told 0x5f (omega arith) _ _ _ _ c.two_at.ensures c.in_ok-t.was).valid.1)

pub returns : goal.returns
returns c =
    let base_is : let a = c.args in Told 3 (base 0x100 a.top) a.s.now a.at c.in_ok-b.b = base_told 0x100 c.args.top c.requires.1 (omega arith) _ _ c.in_ok-b.b _ c.three_at.ensures (grind arith) in
    symbol_told 0x100 c.args.top 0x5f key_of parts_of _
    c.requires.1 (omega arith) _ _ _ _ _
    base_is c.two_at.ensures c.in_ok-t.was
