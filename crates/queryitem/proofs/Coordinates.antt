-- The coordinate of an item in any edition: one law for each return.
use Prim.Native.Nat.{ℕ, ◌+◌, ◌≤◌, ◌<◌}
use mathlib.Core.List.{List}
use mathlib.Core.Path.{◌≡◌, refl, sym, ap, ◌∙◌}
use mathlib.Core.Option.{Option, none, some}
use lib.ListN.{length, drop}
use native.Mathlib.Omega.{arith}
use Rattle.format.specs.Format.{Format, optional, first, second as next}
use Rattle.format.specs.Located.{Located, found, wrong_at, short_here, locate, and_then, on_found}
use Rattle.format.proofs.Delimited.{Fixed}
use Rattle.format.proofs.At.{delimited_got, Strays, here, later, wronged, sequence_at, cut_reads}
use Rattle.format.proofs.Ends.{optional_over, optional_bad, optional_begun, optional_other, optional_short}
use Rattle.charset.specs.declared.Charset.TheVariants.{Fsw, Swu}
use Rattle.charset.proofs.Sets.{fsw_lawful}
use Rattle.std.specs.Prelude.{Result as Answer, Ok, Err, Option as Optional, Some, None}
use Rattle.token.specs.declared.refusal.Refusal.{Refusal}
use Rattle.token.specs.declared.refusal.Refusal.TheVariants.{TextWrong, TextShort}
use Rattle.token.specs.Token.{token_at}
use Rattle.token.proofs.Told.{told_at}
use Rattle.querygrammar.specs.declared.Edition.{Edition}
use Rattle.querygrammar.specs.declared.Edition.TheVariants.{First, Second}
use Rattle.querygrammar.specs.Spelling.{query_number, spelling}
use Rattle.querygrammar.specs.Query.{coordinate}
use Rattle.querygrammar.proofs.Items.{query_number_delimited, lawful}
use Rattle.queryitem.specs.Numbers.{optionally}
use Rattle.queryitem.specs.Pieces.{number_size, told_piece, coordinate_at}
use Rattle.queryitem.proofs.Chains.{wrong_token, FailsAs, token_fails}

-- THE NUMBERS

swu_fixed : Fixed 1 4 query_number
swu_fixed = record { delimited = query_number_delimited; size = λ v ok. refl }

number_fixed : (e : Edition) → Fixed 1 (number_size e) (spelling e).number
number_fixed First = fsw_lawful.number
number_fixed (Second Fsw) = fsw_lawful.number
number_fixed (Second Swu) = swu_fixed

second_fixed : (e : Edition) → Fixed 1 4 (spelling e).second
second_fixed First = fsw_lawful.second
second_fixed (Second Fsw) = fsw_lawful.second
second_fixed (Second Swu) = swu_fixed

-- THE COORDINATE

module _ (e : Edition) (s : List ℕ) (at : ℕ) where
  abbrev number : Format ℕ
  number = (spelling e).number

  abbrev second : Format ℕ
  second = (spelling e).second

  abbrev there : Format (Option (ℕ × ℕ))
  there = optional (coordinate (spelling e))

  abbrev Place : Type 0
  Place = Answer (Optional (ℕ × ℕ) × ℕ) Refusal

  placed : (r : Place) (l : Located (Option (ℕ × ℕ))) → locate there s at ≡ l → r ≡ told_piece (length s) (on_found optionally l) → r ≡ coordinate_at e s at
  unfolding coordinate_at
  placed r l z q = q ∙ ap (λ l. told_piece (length s) (on_found optionally l)) (sym z)

  pub no_coordinate : at ≤ length s → length s ≤ at → Ok (None, at) ≡ coordinate_at e s at
  no_coordinate h k =
      placed (Ok (None, at)) (found none at) (optional_over (coordinate (spelling e)) s at (omega arith) (lawful e).coordinate.delimited.empty) refl

  module _ (h : at < length s) (t : Answer ℕ Refusal) (q : t ≡ token_at number s at) where
    strayed : (p : ℕ) → t ≡ Err (TextWrong p) → Strays number s at p
    strayed p v = wronged 1 number (number_fixed e).delimited s at p (wrong_token number s at p t q v)

    pub absent : (d : Refusal) → t ≡ Err d → d ≡ TextWrong at → Ok (None, at) ≡ coordinate_at e s at
    absent d v z = go (strayed at (v ∙ ap Err z))
      where
        go : Strays number s at at → Ok (None, at) ≡ coordinate_at e s at
        go (here y o) = placed (Ok (None, at)) (found none at) (optional_other number (λ x. second) s at (omega arith) o) refl
        go (later rest y k o) = absurd (omega arith)

    number_wrong : (p : ℕ) → locate number s at ≡ wrong_at p → (p ≡ at → ⊥) → Err (TextWrong p) ≡ coordinate_at e s at
    number_wrong p v z = go (wronged 1 number (number_fixed e).delimited s at p v)
      where
        go : Strays number s at p → Err (TextWrong p) ≡ coordinate_at e s at
        go (here y o) = absurd (z y)
        go (later rest y k o) =
            placed (Err (TextWrong p)) (wrong_at p)
            (optional_bad (coordinate (spelling e)) s at rest (ap (λ r. first r λ x left. next (λ y. (x, y)) left (second.read left)) o) ∙ ap wrong_at (sym y)) refl

    number_short : locate number s at ≡ short_here → Err (TextShort (length s)) ≡ coordinate_at e s at
    number_short v = placed (Err (TextShort (length s))) short_here (optional_short number (λ x. second) s at h (cut_reads number s at v)) refl

    -- refused, and not at the first byte
    pub number_fails : (r : Refusal) → t ≡ Err r → (r ≡ TextWrong at → ⊥) → Err r ≡ coordinate_at e s at
    number_fails r v n = go (locate number s at) refl (token_fails number s at t r q v)
      where
        go : (l : Located ℕ) → locate number s at ≡ l → FailsAs (length s) l r → Err r ≡ coordinate_at e s at
        go (found a i) z f = absurd f
        go (wrong_at p) z f = ap Err f ∙ number_wrong p z (λ y. n (f ∙ ap TextWrong y))
        go short_here z f = ap Err f ∙ number_short z

    -- where the first number is there, with its size as it was told
    module _ (x m : ℕ) (v : t ≡ Ok x) (z : m ≡ number_size e) where
      abbrev pair : Located ℕ → Located (Option (ℕ × ℕ))
      pair l = on_found some (on_found (λ y. (x, y)) l)

      there-at : locate there s at ≡ pair (locate second s (at + m))
      there-at =
          let k = told_at 1 (number_size e) number (number_fixed e) s at x (sym q ∙ v) in
          let l = k.is ∙ ap (λ m. found x (at + m)) (sym z) in
          let g = delimited_got 1 number (number_fixed e).delimited s at x (at + m) l in
          optional_begun number (λ x. second) s at x (drop (at + m) s) g.reads h
          ∙ ap (on_found some) (sequence_at 1 number (λ x. second) (number_fixed e).delimited s at ∙ ap (λ l. and_then l λ x i. on_found (λ y. (x, y)) (locate second s i)) l)

      pub second_fails : (u : Answer ℕ Refusal) (r : Refusal) → u ≡ token_at second s (at + m) → u ≡ Err r → Err r ≡ coordinate_at e s at
      second_fails u r w k = placed (Err r) (pair (locate second s (at + m))) there-at (go (locate second s (at + m)) (token_fails second s (at + m) u r w k))
        where
          go : (l : Located ℕ) → FailsAs (length s) l r → Err r ≡ told_piece (length s) (on_found optionally (pair l))
          go (found y i) h = absurd h
          go (wrong_at p) h = ap Err h
          go short_here h = ap Err h

      pub both_found : (y : ℕ) (u : Answer ℕ Refusal) → u ≡ token_at second s (at + m) → u ≡ Ok y → Ok (Some (x, y), at + m + 4) ≡ coordinate_at e s at
      both_found y u w f =
          placed (Ok (Some (x, y), at + m + 4)) (found (some (x, y)) (at + m + 4))
          (there-at ∙ ap pair (told_at 1 4 second (second_fixed e) s (at + m) y (sym w ∙ f)).is) refl
