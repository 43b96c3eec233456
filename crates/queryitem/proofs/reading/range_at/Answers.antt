use Prim.Native.Nat.{ℕ, ◌+◌}
use mathlib.Core.Path.{◌≡◌, refl, ◌∙◌}
use mathlib.Core.Logic.{inr}
use native.Mathlib.Omega.{arith}
use Rattle.charset.specs.Bytes.{byte}
use Rattle.token.proofs.Handed.{handed}
use Rattle.token.proofs.Told.{Told}
use Rattle.token.proofs.Keys.{base_told}
use Rattle.querygrammar.specs.Spelling.{query_base, range_end, range_tail, range_text, fsw_meaning}
use Rattle.querygrammar.proofs.Items.{query_base_delimited}
use Rattle.queryitem.specs.declared.reading.Numbers.{Numbers}
use Rattle.queryitem.specs.Numbers.{numbers_of}
use Rattle.queryitem.specs.Pieces.{Piece, piece_at}
use Rattle.queryitem.proofs.Chains.{byte_there, token_fails, found_piece, piece_fails, sequence_fails, sequence_next, after_fails, after_next}
use Rattle.queryitem.proofs.reading.range_at.Goals as goal

abbrev numbers : ℕ × ℕ → Numbers
numbers p = numbers_of (fsw_meaning (inr p))

pub returns-in_err-byte_at : goal.returns-in_err-byte_at
returns-in_err-byte_at c = handed _ _ c.from_residual.ensures.1 ∙ after_fails 82 range_tail numbers _ _ _ (token_fails (byte 82) _ _ _ _ c.byte_at.ensures c.in_err-byte_at.was)

pub returns-in_err-from : goal.returns-in_err-from
returns-in_err-from c =
    let letter : let a = c.args in (r : Piece) → r ≡ piece_at range_tail numbers a.s.now (a.at + 1) → r ≡ piece_at range_text numbers a.s.now a.at = λ r. after_next 82 range_tail numbers _ _ r _ _ (byte_there 82 _ _ _ _ c.byte_at.ensures c.in_ok-byte_at.was) refl in
    handed _ _ c.from_residual-in_err-from.ensures.1
    ∙ letter _ (sequence_fails query_base (λ b. range_end) query_base_delimited numbers _ _ _ (token_fails query_base _ _ _ _ c.base_at.ensures c.in_err-from.was))

pub returns-in_err-byte_at-2 : goal.returns-in_err-byte_at-2
returns-in_err-byte_at-2 c =
    let letter : let a = c.args in (r : Piece) → r ≡ piece_at range_tail numbers a.s.now (a.at + 1) → r ≡ piece_at range_text numbers a.s.now a.at = λ r. after_next 82 range_tail numbers _ _ r _ _ (byte_there 82 _ _ _ _ c.byte_at.ensures c.in_ok-byte_at.was) refl in
    let from_is : let a = c.args in Told 3 query_base a.s.now (a.at + 1) c.in_ok-from.from = base_told 0x100 0x38b (omega arith) (omega arith) _ _ _ _ c.base_at.ensures c.in_ok-from.was in
    let from : let a = c.args in (r : Piece) → r ≡ piece_at range_end (λ b. numbers (c.in_ok-from.from, b)) a.s.now (a.at + 4) → r ≡ piece_at range_text numbers a.s.now a.at = λ r q. letter r (sequence_next query_base (λ b. range_end) query_base_delimited numbers _ _ r _ _ _ from_is.is (omega arith) q) in
    handed _ _ c.from_residual-in_err-byte_at-2.ensures.1
    ∙ from _ (after_fails 116 query_base _ _ _ _ (token_fails (byte 116) _ _ _ _ c.byte_at-2.ensures c.in_err-byte_at-2.was))

pub returns-in_err-to : goal.returns-in_err-to
returns-in_err-to c =
    let letter : let a = c.args in (r : Piece) → r ≡ piece_at range_tail numbers a.s.now (a.at + 1) → r ≡ piece_at range_text numbers a.s.now a.at = λ r. after_next 82 range_tail numbers _ _ r _ _ (byte_there 82 _ _ _ _ c.byte_at.ensures c.in_ok-byte_at.was) refl in
    let from_is : let a = c.args in Told 3 query_base a.s.now (a.at + 1) c.in_ok-from.from = base_told 0x100 0x38b (omega arith) (omega arith) _ _ _ _ c.base_at.ensures c.in_ok-from.was in
    let from : let a = c.args in (r : Piece) → r ≡ piece_at range_end (λ b. numbers (c.in_ok-from.from, b)) a.s.now (a.at + 4) → r ≡ piece_at range_text numbers a.s.now a.at = λ r q. letter r (sequence_next query_base (λ b. range_end) query_base_delimited numbers _ _ r _ _ _ from_is.is (omega arith) q) in
    let until : let a = c.args in (r : Piece) → r ≡ piece_at query_base (λ b. numbers (c.in_ok-from.from, b)) a.s.now (a.at + 5) → r ≡ piece_at range_text numbers a.s.now a.at = λ r q. from r (after_next 116 query_base _ _ _ r _ _ (byte_there 116 _ _ _ _ c.byte_at-2.ensures c.in_ok-byte_at-2.was) (omega arith) q) in
    handed _ _ c.from_residual-in_err-to.ensures.1
    ∙ until _ (piece_fails query_base _ _ _ _ (token_fails query_base _ _ _ _ c.base_at-2.ensures c.in_err-to.was))

pub range_numbers-requires : goal.range_numbers-requires
range_numbers-requires c =
    let from_is : let a = c.args in Told 3 query_base a.s.now (a.at + 1) c.in_ok-from.from = base_told 0x100 0x38b (omega arith) (omega arith) _ _ _ _ c.base_at.ensures c.in_ok-from.was in
    let to_is : let a = c.args in Told 3 query_base a.s.now (a.at + 5) c.in_ok-to.to = base_told 0x100 0x38b (omega arith) (omega arith) _ _ _ _ c.base_at-2.ensures c.in_ok-to.was in
    let a = from_is.valid in let b = to_is.valid in (a.0, a.1, b.0, b.1)

pub returns : goal.returns
returns c =
    let letter : let a = c.args in (r : Piece) → r ≡ piece_at range_tail numbers a.s.now (a.at + 1) → r ≡ piece_at range_text numbers a.s.now a.at = λ r. after_next 82 range_tail numbers _ _ r _ _ (byte_there 82 _ _ _ _ c.byte_at.ensures c.in_ok-byte_at.was) refl in
    let from_is : let a = c.args in Told 3 query_base a.s.now (a.at + 1) c.in_ok-from.from = base_told 0x100 0x38b (omega arith) (omega arith) _ _ _ _ c.base_at.ensures c.in_ok-from.was in
    let from : let a = c.args in (r : Piece) → r ≡ piece_at range_end (λ b. numbers (c.in_ok-from.from, b)) a.s.now (a.at + 4) → r ≡ piece_at range_text numbers a.s.now a.at = λ r q. letter r (sequence_next query_base (λ b. range_end) query_base_delimited numbers _ _ r _ _ _ from_is.is (omega arith) q) in
    let until : let a = c.args in (r : Piece) → r ≡ piece_at query_base (λ b. numbers (c.in_ok-from.from, b)) a.s.now (a.at + 5) → r ≡ piece_at range_text numbers a.s.now a.at = λ r q. from r (after_next 116 query_base _ _ _ r _ _ (byte_there 116 _ _ _ _ c.byte_at-2.ensures c.in_ok-byte_at-2.was) (omega arith) q) in
    let to_is : let a = c.args in Told 3 query_base a.s.now (a.at + 5) c.in_ok-to.to = base_told 0x100 0x38b (omega arith) (omega arith) _ _ _ _ c.base_at-2.ensures c.in_ok-to.was in
    until _ (found_piece query_base _ _ _ _ _ _ _ to_is.is (omega arith) c.range_numbers.ensures)
