-- Reading the symbol of a text by itself: one law for each return.
use Prim.Native.Nat.{ℕ, ◌≤◌}
use mathlib.Core.Path.{◌≡◌, sym, ap, ◌∙◌}
use mathlib.Core.List.{List}
use lib.ListN.{length}
use native.Mathlib.Omega.{arith}
use Rattle.std.specs.Prelude.{Result as Answer, Ok, Err, ⊤}
use Rattle.std.specs.Result.{IsErrAnd}
use Rattle.format.specs.Located.{Located, found, wrong_at, short_here, locate, ended}
use Rattle.format.proofs.Delimited.{Fixed}
use Rattle.format.proofs.Ends.{reading_at}
use Rattle.charset.specs.declared.Charset.{Charset}
use Rattle.charset.specs.Tokens.{tokens, last_punctuation}
use Rattle.charset.proofs.Sets.{lawful}
use Rattle.token.specs.declared.refusal.Refusal.{Refusal}
use Rattle.token.specs.Refusal.{number_of, place_of}
use Rattle.token.specs.Result.{refusal, outcome, on_done, of_outcome}
use Rattle.token.specs.Symbol.{any_symbol}
use Rattle.token.specs.Ends.{left_over}
use Rattle.token.specs.Token.{told, token_at}
use Rattle.token.proofs.Handed.{handed}
use Rattle.token.proofs.Told.{Told, told_at}
use Rattle.token.proofs.Ends.{end_is}
use Rattle.symbol.specs.Codes.{code_of, code_as, as_code, code_read}

pub symbol_fixed : (set : Charset) → Fixed (tokens set).unit (tokens set).symbol_size (any_symbol set)
symbol_fixed set = (lawful set).symbol_or_null last_punctuation (omega arith) (omega arith)

-- what is refused as a token is refused as a whole text
token_refused : (w size : ℕ) (l : Located ℕ) (e : Refusal) → told size l ≡ Err e → refusal (number_of e) (place_of e) ≡ of_outcome size (ended w size l)
token_refused w size (found a i) e h = absurd (cc h)
token_refused w size (wrong_at p) e h = let x : outcome (told size (wrong_at p)) ≡ outcome (Err e) = ap outcome h in sym x
token_refused w size short_here e h = let x : outcome (told {A = ℕ} size short_here) ≡ outcome (Err e) = ap outcome h in sym x

module _ (set : Charset) (s : List ℕ) where
  code_at : of_outcome (length s) (ended (tokens set).unit (length s) (locate (any_symbol set) s 0)) ≡ code_of set s
  code_at = sym (ap (of_outcome (length s)) (reading_at (tokens set).unit (any_symbol set) (symbol_fixed set).delimited.lawful s))

  read_as : (r : Answer ℕ Refusal) → outcome r ≡ code_of set s → as_code r ≡ code_read set s
  unfolding code_read
  read_as r h = ap code_as h

  -- there is no symbol
  pub read_refused : (r : Answer ℕ Refusal) (e : Refusal) → IsErrAnd r (λ d. d ≡ e) → token_at (any_symbol set) s 0 ≡ Err e → as_code r ≡ code_read set s
  unfolding token_at
  read_refused r e h q = read_as r (ap outcome (handed r e h) ∙ token_refused (tokens set).unit (length s) (locate (any_symbol set) s 0) e q ∙ code_at)

  module _ (v i : ℕ) (e : token_at (any_symbol set) s 0 ≡ Ok v) (n : i ≡ (tokens set).symbol_size) where
    there : Told (tokens set).symbol_size (any_symbol set) s 0 v
    there = told_at (tokens set).unit (tokens set).symbol_size (any_symbol set) (symbol_fixed set) s 0 v e

    pub inside : i ≤ length s
    inside = let t = there.room in omega arith

    found-there : locate (any_symbol set) s 0 ≡ found v i
    found-there = there.is ∙ ap (found v) (omega arith)

    left_is : on_done (λ _. v) (outcome (left_over set (length s) i)) ≡ code_of set s
    left_is = end_is v set (length s) i inside ∙ sym (ap (λ l. of_outcome (length s) (ended (tokens set).unit (length s) l)) found-there) ∙ code_at

    -- something follows it
    pub read_followed : (r : Answer ℕ Refusal) (f : Refusal) → IsErrAnd r (λ d. d ≡ f) → left_over set (length s) i ≡ Err f → as_code r ≡ code_read set s
    read_followed r f h q = read_as r (ap outcome (handed r f h) ∙ ap (λ x. on_done (λ _. v) (outcome x)) (sym q) ∙ left_is)

    pub read_fine : (u : ⊤) → left_over set (length s) i ≡ Ok u → as_code (Ok v) ≡ code_read set s
    read_fine u q = read_as (Ok v) (ap (λ x. on_done (λ _. v) (outcome x)) (sym q) ∙ left_is)
