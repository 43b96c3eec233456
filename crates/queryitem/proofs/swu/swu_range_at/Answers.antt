use Prim.Native.Nat.{ℕ, ◌+◌}
use mathlib.Core.Path.{◌≡◌, refl, ◌∙◌}
use mathlib.Core.Logic.{inr}
use native.Mathlib.Omega.{arith}
use Rattle.charset.specs.Bytes.{byte}
use Rattle.token.proofs.Handed.{handed}
use Rattle.token.proofs.Told.{Told}
use Rattle.querygrammar.specs.Spelling.{swu_base, swu_ends, swu_range, swu_meaning, range_item}
use Rattle.querygrammar.proofs.Items.{scalar_delimited}
use Rattle.queryitem.specs.declared.reading.Numbers.{Numbers}
use Rattle.queryitem.specs.Numbers.{numbers_of}
use Rattle.queryitem.specs.Pieces.{Piece, piece_at}
use Rattle.queryitem.proofs.Chains.{byte_there, token_fails, found_piece, piece_fails, sequence_fails, sequence_next, after_fails, after_next}
use Rattle.queryitem.proofs.SwuItems.{character_told}
use Rattle.queryitem.proofs.swu.swu_range_at.Goals as goal

abbrev numbers : ℕ × ℕ → Numbers
numbers r = numbers_of (swu_meaning (inr r))

pub returns-in_err-byte_at : goal.returns-in_err-byte_at
returns-in_err-byte_at c = handed _ _ c.from_residual.ensures.1 ∙ after_fails 82 swu_ends numbers _ _ _ (token_fails (byte 82) _ _ _ _ c.byte_at.ensures c.in_err-byte_at.was)

pub returns-in_err-from : goal.returns-in_err-from
returns-in_err-from c =
    let letter : let a = c.args in (r : Piece) → r ≡ piece_at swu_ends numbers a.s.now (a.at + 1) → r ≡ piece_at swu_range numbers a.s.now a.at = λ r. after_next 82 swu_ends numbers _ _ r _ _ (byte_there 82 _ _ _ _ c.byte_at.ensures c.in_ok-byte_at.was) refl in
    handed _ _ c.from_residual-in_err-from.ensures.1
    ∙ letter _
    (sequence_fails swu_base (λ a. swu_base) (scalar_delimited 0x40000 1 62592 (omega arith) (omega arith)) numbers _ _ _ (token_fails swu_base _ _ _ _ c.symbol_at.ensures c.in_err-from.was))

pub returns-in_err-to : goal.returns-in_err-to
returns-in_err-to c =
    let letter : let a = c.args in (r : Piece) → r ≡ piece_at swu_ends numbers a.s.now (a.at + 1) → r ≡ piece_at swu_range numbers a.s.now a.at = λ r. after_next 82 swu_ends numbers _ _ r _ _ (byte_there 82 _ _ _ _ c.byte_at.ensures c.in_ok-byte_at.was) refl in
    let from_is : let a = c.args in Told 4 swu_base a.s.now (a.at + 1) c.in_ok-from.from = character_told 1 (omega arith) _ _ _ _ c.symbol_at.ensures c.in_ok-from.was in
    let from : let a = c.args in (r : Piece) → r ≡ piece_at swu_base (λ b. numbers (c.in_ok-from.from, b)) a.s.now (a.at + 5) → r ≡ piece_at swu_range numbers a.s.now a.at = λ r q. letter r (sequence_next swu_base (λ a. swu_base) (scalar_delimited 0x40000 1 62592 (omega arith) (omega arith)) numbers _ _ r _ _ _ from_is.is (omega arith) q) in
    handed _ _ c.from_residual-in_err-to.ensures.1
    ∙ from _ (piece_fails swu_base _ _ _ _ (token_fails swu_base _ _ _ _ c.symbol_at-2.ensures c.in_err-to.was))

pub base_of-requires : goal.base_of-requires
base_of-requires c =
    let from_is : let a = c.args in Told 4 swu_base a.s.now (a.at + 1) c.in_ok-from.from = character_told 1 (omega arith) _ _ _ _ c.symbol_at.ensures c.in_ok-from.was in
    from_is.valid

pub base_of-requires-2 : goal.base_of-requires-2
base_of-requires-2 c =
    let to_is : let a = c.args in Told 4 swu_base a.s.now (a.at + 5) c.in_ok-to.to = character_told 1 (omega arith) _ _ _ _ c.symbol_at-2.ensures c.in_ok-to.was in
    to_is.valid

pub range_numbers-requires : goal.range_numbers-requires
range_numbers-requires c =
    let from_is : let a = c.args in Told 4 swu_base a.s.now (a.at + 1) c.in_ok-from.from = character_told 1 (omega arith) _ _ _ _ c.symbol_at.ensures c.in_ok-from.was in
    let to_is : let a = c.args in Told 4 swu_base a.s.now (a.at + 5) c.in_ok-to.to = character_told 1 (omega arith) _ _ _ _ c.symbol_at-2.ensures c.in_ok-to.was in
    let a = from_is.valid in let b = to_is.valid in
    (omega (arith, c.base_of.ensures), omega (arith, c.base_of.ensures, a.1), omega (arith, c.base_of-2.ensures), omega (arith, c.base_of-2.ensures, b.1))

pub returns : goal.returns
returns c =
    let letter : let a = c.args in (r : Piece) → r ≡ piece_at swu_ends numbers a.s.now (a.at + 1) → r ≡ piece_at swu_range numbers a.s.now a.at = λ r. after_next 82 swu_ends numbers _ _ r _ _ (byte_there 82 _ _ _ _ c.byte_at.ensures c.in_ok-byte_at.was) refl in
    let from_is : let a = c.args in Told 4 swu_base a.s.now (a.at + 1) c.in_ok-from.from = character_told 1 (omega arith) _ _ _ _ c.symbol_at.ensures c.in_ok-from.was in
    let from : let a = c.args in (r : Piece) → r ≡ piece_at swu_base (λ b. numbers (c.in_ok-from.from, b)) a.s.now (a.at + 5) → r ≡ piece_at swu_range numbers a.s.now a.at = λ r q. letter r (sequence_next swu_base (λ a. swu_base) (scalar_delimited 0x40000 1 62592 (omega arith) (omega arith)) numbers _ _ r _ _ _ from_is.is (omega arith) q) in
    let to_is : let a = c.args in Told 4 swu_base a.s.now (a.at + 5) c.in_ok-to.to = character_told 1 (omega arith) _ _ _ _ c.symbol_at-2.ensures c.in_ok-to.was in
    from _
    (found_piece swu_base _ _ _ _ _ _ _ to_is.is (omega arith)
    (c.range_numbers.ensures ∙ (λ i. numbers_of (range_item (c.base_of.ensures i) (c.base_of-2.ensures i)))))
