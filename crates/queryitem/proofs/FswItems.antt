-- Null and items in FSW: one law for each return.
use Prim.Native.Nat.{ℕ, ◌+◌}
use mathlib.Core.List.{List}
use mathlib.Core.Path.{◌≡◌, refl, sym, ap, ◌∙◌}
use mathlib.Core.Bool.{Bool, true, false}
use mathlib.Core.Logic.{◌⊎◌, inl, inr}
use lib.ListN.{length, drop}
use Rattle.format.specs.Format.{Format}
use Rattle.format.specs.Located.{Located, found, wrong_at, short_here, locate, and_then}
use Rattle.format.proofs.At.{delimited_got, mapped_at, either_first, either_second}
use Rattle.charset.specs.Bytes.{byte, after}
use Rattle.charset.specs.Tokens.{null}
use Rattle.charset.proofs.Units.{byte_delimited, after_other}
use Rattle.charset.proofs.FixedByte.{after_at, after_begun, byte_wrong}
use Rattle.charset.proofs.Keys.{null_delimited}
use Rattle.std.specs.Prelude.{Result as Answer, Ok, Err}
use Rattle.token.specs.declared.refusal.Refusal.{Refusal}
use Rattle.token.specs.declared.refusal.Refusal.TheVariants.{TextWrong}
use Rattle.token.specs.Token.{token_at}
use Rattle.token.proofs.Told.{told_at}
use Rattle.querygrammar.specs.Spelling.{KeyText, key_tail, range_text, key_in, ValidKey, key_only, null_or_key, fsw_item, fsw_meaning, null_item}
use Rattle.queryitem.specs.declared.reading.Numbers.{Numbers}
use Rattle.queryitem.specs.Numbers.{numbers_of}
use Rattle.queryitem.specs.Pieces.{Piece, piece_at, null_at, symbol_at}
use Rattle.queryitem.proofs.Chains.{byte_there, wrong_token, FailsAs, token_fails, short_token, found_piece, piece_fails, piece_is, after_fails, after_next, first_piece, second_piece}

abbrev symbol_numbers : ℕ ⊎ KeyText → Numbers
symbol_numbers v = numbers_of (fsw_meaning (inl v))

abbrev KeyAt : List ℕ → ℕ → Piece → Type 0
KeyAt s at r = r ≡ piece_at key_tail (λ k. symbol_numbers (inr k)) s at

-- A SYMBOL AFTER ITS S

module _ (s : List ℕ) (at : ℕ) where
  pub key_only_lem : (r : Piece) → KeyAt s at r → r ≡ symbol_at false s at
  key_only_lem r = piece_is key_only symbol_numbers s at key_tail inr at r (mapped_at key_tail inr key_in ValidKey s at)

  module _ (t : Answer ℕ Refusal) (e : t ≡ token_at null s at) where
    pub key-after : (d : Refusal) (r : Piece) → t ≡ Err d → d ≡ TextWrong at → KeyAt s at r → r ≡ symbol_at true s at
    key-after d r v z =
        piece_is null_or_key symbol_numbers s at key_tail inr at r
        (either_second null key_tail s at null_delimited.firm (wrong_token null s at at t e (v ∙ ap Err z)))

    -- null is not wrong at once
    null-first : (r : Piece) → (locate null s at ≡ wrong_at at → ⊥) → r ≡ piece_at null (λ c. numbers_of null_item) s at → r ≡ symbol_at true s at
    null-first r n = piece_is null_or_key symbol_numbers s at null inl at r (either_first null key_tail s at n)

    pub null_found : (a : ℕ) (n : Numbers) → t ≡ Ok a → n ≡ numbers_of null_item → Ok (n, at + 5) ≡ symbol_at true s at
    null_found a n v q =
        let l = told_at 1 5 null (record { delimited = null_delimited; size = λ v ok. refl }) s at a (sym e ∙ v) in
        null-first (Ok (n, at + 5)) (λ z. let y : found a (at + 5) ≡ wrong_at at = sym l.is ∙ z in cc)
        (found_piece null (λ c. numbers_of null_item) s at a (at + 5) (at + 5) n l.is refl q)

    not-here : (r : Refusal) (l : Located ℕ) → FailsAs (length s) l r → (r ≡ TextWrong at → ⊥) → l ≡ wrong_at at → ⊥
    not-here r (found v i) h n z = absurd h
    not-here r (wrong_at p) h n z = let y : p ≡ at = cc in n (h ∙ ap TextWrong y)
    not-here r short_here h n z = absurd (cc z)

    pub null_fails : (r : Refusal) → t ≡ Err r → (r ≡ TextWrong at → ⊥) → Err r ≡ symbol_at true s at
    null_fails r v n =
        let f = token_fails null s at t r e v in
        null-first (Err r) (not-here r (locate null s at) f n) (piece_fails null (λ c. numbers_of null_item) s at r f)

-- with null among the symbols or without
pub symbol_null : (null : Bool) (s : List ℕ) (at : ℕ) (t : Answer ℕ Refusal) → t ≡ null_at null s at → (a : ℕ) (n : Numbers) → t ≡ Ok a → n ≡ numbers_of null_item → Ok (n, at + 5) ≡ symbol_at null s at
symbol_null true s at t e a n v q = null_found s at t e a n v q
symbol_null false s at t e a n v q = absurd (let z : ◌≡◌ {A = Answer ℕ Refusal} (Ok a) (Err (TextWrong at)) = sym v ∙ e in cc)

pub symbol_key : (null : Bool) (s : List ℕ) (at : ℕ) (t : Answer ℕ Refusal) → t ≡ null_at null s at → (d : Refusal) (r : Piece) → t ≡ Err d → d ≡ TextWrong at → KeyAt s at r → r ≡ symbol_at null s at
symbol_key true s at t e d r v z k = key-after s at t e d r v z k
symbol_key false s at t e d r v z k = key_only_lem s at r k

pub symbol_fails : (null : Bool) (s : List ℕ) (at : ℕ) (t : Answer ℕ Refusal) → t ≡ null_at null s at → (r : Refusal) → t ≡ Err r → (r ≡ TextWrong at → ⊥) → Err r ≡ symbol_at null s at
symbol_fails true s at t e r v n = null_fails s at t e r v n
symbol_fails false s at t e r v n = absurd (n (let z : ◌≡◌ {A = Answer ℕ Refusal} (Err r) (Err (TextWrong at)) = sym v ∙ e in cc))

-- AN ITEM

module _ (symbol : Format (ℕ ⊎ KeyText)) (s : List ℕ) (at : ℕ) (t : Answer ℕ Refusal) (e : t ≡ token_at (byte 83) s at) where
  abbrev ItemAt : Piece → Type 0
  ItemAt r = r ≡ piece_at (fsw_item symbol) (λ a. numbers_of (fsw_meaning a)) s at

  pub item_symbol : (a : ℕ) (r : Piece) → t ≡ Ok a → r ≡ piece_at symbol symbol_numbers s (at + 1) → ItemAt r
  item_symbol a r v q =
      let l = byte_there 83 s at a t e v in
      let g = delimited_got 1 (byte 83) (byte_delimited 83) s at a (at + 1) l in
      first_piece (after 83 symbol) range_text (λ a. numbers_of (fsw_meaning a)) s at r (after_begun 83 symbol (drop at s) a (drop (at + 1) s) g.reads)
      (after_next 83 symbol symbol_numbers s at r a (at + 1) l refl q)

  pub item_range : (d : Refusal) (r : Piece) → t ≡ Err d → d ≡ TextWrong at → r ≡ piece_at range_text (λ r. numbers_of (fsw_meaning (inr r))) s at → ItemAt r
  item_range d r v z =
      second_piece (after 83 symbol) range_text (λ a. numbers_of (fsw_meaning a)) s at r
      (after_other 83 symbol (drop at s) (byte_wrong 83 s at at (wrong_token (byte 83) s at at t e (v ∙ ap Err z))).1)

  pub item_short : (r : Refusal) → t ≡ Err r → (r ≡ TextWrong at → ⊥) → ItemAt (Err r)
  item_short r v n =
      let z = (short_token (byte 83) s at t r e v (λ p w. (byte_wrong 83 s at p w).0) n).located in
      let l : locate (after 83 symbol) s at ≡ short_here = after_at 83 symbol s at ∙ ap (λ l. and_then l λ a i. locate symbol s i) z in
      piece_is (fsw_item symbol) (λ a. numbers_of (fsw_meaning a)) s at (after 83 symbol) inl at (Err r)
      (either_first (after 83 symbol) range_text s at (λ y. cut-not (sym l ∙ y))) (after_fails 83 symbol symbol_numbers s at r (token_fails (byte 83) s at t r e v))
    where
      cut-not : ◌≡◌ {A = Located (ℕ ⊎ KeyText)} short_here (wrong_at at) → ⊥
      cut-not e = cc
