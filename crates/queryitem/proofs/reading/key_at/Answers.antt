use Prim.Native.Nat.{◌+◌}
use mathlib.Core.Path.{◌≡◌, refl, ◌∙◌}
use mathlib.Core.Logic.{inl, inr}
use native.Mathlib.Omega.{arith}
use Rattle.token.proofs.Handed.{handed}
use Rattle.token.proofs.Told.{Told}
use Rattle.token.proofs.Keys.{base_told}
use Rattle.querygrammar.specs.Spelling.{query_base, or_any, KeyText, open_digits, key_tail, fsw_meaning, key_item}
use Rattle.querygrammar.proofs.Items.{query_base_delimited, any_delimited}
use Rattle.queryitem.specs.declared.reading.Numbers.{Numbers}
use Rattle.queryitem.specs.Numbers.{numbers_of}
use Rattle.queryitem.specs.Pieces.{Piece, piece_at}
use Rattle.queryitem.proofs.Chains.{token_fails, found_piece, piece_fails, sequence_fails, sequence_next}
use Rattle.queryitem.proofs.Digits.{digit_fails, Opened, opened}
use Rattle.queryitem.proofs.reading.key_at.Goals as goal

abbrev numbers : KeyText → Numbers
numbers k = numbers_of (fsw_meaning (inl (inr k)))

pub returns-in_err-base : goal.returns-in_err-base
returns-in_err-base c =
    handed _ _ c.from_residual.ensures.1
    ∙ sequence_fails query_base (λ b. open_digits) query_base_delimited numbers _ _ _ (token_fails query_base _ _ _ _ c.base_at.ensures c.in_err-base.was)

pub returns-in_err-fill : goal.returns-in_err-fill
returns-in_err-fill c =
    let base_is : let a = c.args in Told 3 query_base a.s.now a.at c.in_ok-base.base = base_told 0x100 0x38b (omega arith) (omega arith) _ _ _ _ c.base_at.ensures c.in_ok-base.was in
    let based : let a = c.args in (r : Piece) → r ≡ piece_at open_digits (λ d. numbers (c.in_ok-base.base, d)) a.s.now (a.at + 3) → r ≡ piece_at key_tail numbers a.s.now a.at = λ r. sequence_next query_base (λ b. open_digits) query_base_delimited numbers _ _ r _ _ _ base_is.is refl in
    handed _ _ c.from_residual-in_err-fill.ensures.1
    ∙ based _ (sequence_fails (or_any 5) (λ f. or_any 15) (any_delimited 5 (omega arith)) _ _ _ _ (digit_fails 5 _ _ _ _ c.open_at.ensures c.in_err-fill.was))

pub returns-in_err-rotation : goal.returns-in_err-rotation
returns-in_err-rotation c =
    let fill_is : let a = c.args in Opened 5 a.s.now (a.at + 3) c.in_ok-fill.fill = opened 5 _ _ (omega arith) _ _ c.open_at.ensures c.in_ok-fill.was in
    let base_is : let a = c.args in Told 3 query_base a.s.now a.at c.in_ok-base.base = base_told 0x100 0x38b (omega arith) (omega arith) _ _ _ _ c.base_at.ensures c.in_ok-base.was in
    let based : let a = c.args in (r : Piece) → r ≡ piece_at open_digits (λ d. numbers (c.in_ok-base.base, d)) a.s.now (a.at + 3) → r ≡ piece_at key_tail numbers a.s.now a.at = λ r. sequence_next query_base (λ b. open_digits) query_base_delimited numbers _ _ r _ _ _ base_is.is refl in
    let filled : let a = c.args in (r : Piece) → r ≡ piece_at (or_any 15) (λ r. numbers (c.in_ok-base.base, (fill_is.says, r))) a.s.now (a.at + 4) → r ≡ piece_at key_tail numbers a.s.now a.at = λ r q. based r (sequence_next (or_any 5) (λ f. or_any 15) (any_delimited 5 (omega arith)) _ _ _ r _ _ _ fill_is.is (omega arith) q) in
    handed _ _ c.from_residual-in_err-rotation.ensures.1
    ∙ filled _ (piece_fails (or_any 15) _ _ _ _ (digit_fails 15 _ _ _ _ c.open_at-2.ensures c.in_err-rotation.was))

pub key_numbers-requires : goal.key_numbers-requires
key_numbers-requires c =
    let base_is : let a = c.args in Told 3 query_base a.s.now a.at c.in_ok-base.base = base_told 0x100 0x38b (omega arith) (omega arith) _ _ _ _ c.base_at.ensures c.in_ok-base.was in
    let fill_is : let a = c.args in Opened 5 a.s.now (a.at + 3) c.in_ok-fill.fill = opened 5 _ _ (omega arith) _ _ c.open_at.ensures c.in_ok-fill.was in
    let rotation_is : let a = c.args in Opened 15 a.s.now (a.at + 4) c.in_ok-rotation.rotation = opened 15 _ _ (omega arith) _ _ c.open_at-2.ensures c.in_ok-rotation.was in
    let b = base_is.valid in (b.0, b.1, fill_is.most, rotation_is.most)

pub returns : goal.returns
returns c =
    let fill_is : let a = c.args in Opened 5 a.s.now (a.at + 3) c.in_ok-fill.fill = opened 5 _ _ (omega arith) _ _ c.open_at.ensures c.in_ok-fill.was in
    let base_is : let a = c.args in Told 3 query_base a.s.now a.at c.in_ok-base.base = base_told 0x100 0x38b (omega arith) (omega arith) _ _ _ _ c.base_at.ensures c.in_ok-base.was in
    let based : let a = c.args in (r : Piece) → r ≡ piece_at open_digits (λ d. numbers (c.in_ok-base.base, d)) a.s.now (a.at + 3) → r ≡ piece_at key_tail numbers a.s.now a.at = λ r. sequence_next query_base (λ b. open_digits) query_base_delimited numbers _ _ r _ _ _ base_is.is refl in
    let filled : let a = c.args in (r : Piece) → r ≡ piece_at (or_any 15) (λ r. numbers (c.in_ok-base.base, (fill_is.says, r))) a.s.now (a.at + 4) → r ≡ piece_at key_tail numbers a.s.now a.at = λ r q. based r (sequence_next (or_any 5) (λ f. or_any 15) (any_delimited 5 (omega arith)) _ _ _ r _ _ _ fill_is.is (omega arith) q) in
    let rotation_is : let a = c.args in Opened 15 a.s.now (a.at + 4) c.in_ok-rotation.rotation = opened 15 _ _ (omega arith) _ _ c.open_at-2.ensures c.in_ok-rotation.was in
    let r = rotation_is in
    filled _ (found_piece (or_any 15) _ _ _ _ _ _ _ r.is (omega arith) (c.key_numbers.ensures ∙ (λ i. numbers_of (key_item c.in_ok-base.base (fill_is.means i) (r.means i)))))
