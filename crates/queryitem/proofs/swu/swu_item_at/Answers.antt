use mathlib.Core.Path.{refl, ◌∙◌}
use native.Mathlib.Omega.{arith}
use Rattle.token.proofs.Handed.{handed}
use Rattle.token.proofs.Told.{Told}
use Rattle.querygrammar.specs.Scalar.{scalar}
use Rattle.querygrammar.specs.Spelling.{marks}
use Rattle.querygrammar.proofs.Items.{scalar_delimited}
use Rattle.queryitem.proofs.Chains.{token_fails, sequence_fails, sequence_next}
use Rattle.queryitem.proofs.SwuItems.{character_told, item_end, item_range, item_symbol}
use Rattle.queryitem.proofs.swu.swu_item_at.Goals as goal

pub returns-then-s-at : goal.returns-then-s-at
returns-then-s-at c = item_end _ c.requires.1 _ _ c.if-s-at.true

pub returns-then-s-at-eq82 : goal.returns-then-s-at-eq82
returns-then-s-at-eq82 c = item_range _ c.requires.1 _ _ c.if-s-at.false c.if-s-at-eq82.true _ c.swu_range_at.ensures

pub returns-in_err-code : goal.returns-in_err-code
returns-in_err-code c =
    let k = c.requires.1 in
    handed _ _ c.from_residual.ensures.1
    ∙ item_symbol _ k _ _ c.if-s-at.false c.if-s-at-eq82.false _
    (sequence_fails (scalar 0x40000 c.args.least 62592) marks (scalar_delimited 0x40000 _ 62592 (omega arith) (omega arith)) _ _ _ _
    (token_fails (scalar 0x40000 c.args.least 62592) _ _ _ _ c.symbol_at.ensures c.in_err-code.was))

pub marks_at-requires : goal.marks_at-requires
marks_at-requires c =
    let code_is : let a = c.args in Told 4 (scalar 0x40000 a.least 62592) a.s.now a.at c.in_ok-code.code = character_told _ c.requires.1 _ _ _ _ c.symbol_at.ensures c.in_ok-code.was in
    (code_is.room, code_is.valid.1)

pub returns : goal.returns
returns c =
    let code_is : let a = c.args in Told 4 (scalar 0x40000 a.least 62592) a.s.now a.at c.in_ok-code.code = character_told _ c.requires.1 _ _ _ _ c.symbol_at.ensures c.in_ok-code.was in
    let k = c.requires.1 in
    item_symbol _ k _ _ c.if-s-at.false c.if-s-at-eq82.false _
    (sequence_next (scalar 0x40000 c.args.least 62592) marks (scalar_delimited 0x40000 _ 62592 (omega arith) (omega arith)) _ _ _ _ _ _ _
    code_is.is refl c.marks_at.ensures)
