-- One item in SWU: its character, its marks, and its numbers.
use Prim.Native.Nat.{ℕ, zero, suc, ◌+◌, ◌-◌, ◌/◌, ◌%◌, ◌≤◌, ◌<◌}
use mathlib.Core.List.{List}
use mathlib.Core.Path.{◌≡◌, refl, sym, ap, ◌∙◌}
use mathlib.Core.Bool.{Bool, true, false}
use mathlib.Core.Logic.{◌⊎◌, inl, inr}
use mathlib.Core.Option.{Option, none}
use lib.Dec.{eqb}
use lib.ListN.{length, drop, get_or, length-drop, drop_of_length-le}
use lib.Seq.{drop-cons}
use native.Mathlib.Omega.{arith}
use borrow.Author.Tests.{eqb-true, eq-eqb}
use Rattle.format.specs.Format.{Answer, value, other, wrong, short, Format, optional, either, or_else}
use Rattle.format.specs.Located.{found, located, locate, and_then, on_found}
use Rattle.format.proofs.Parts.{optional_lawful}
use Rattle.format.proofs.At.{got, taken, sequence_at_got}
use Rattle.format.proofs.Ends.{optional_there, optional_over, optional_none}
use Rattle.charset.specs.Bytes.{byte}
use Rattle.charset.specs.Tokens.{parts_of}
use Rattle.charset.proofs.Units.{byte_delimited}
use Rattle.charset.proofs.FixedByte.{byte_other, after_byte}
use Rattle.std.specs.Prelude.{Result as Answered, Ok, Err, Option as Optional, Some, None}
use Rattle.token.specs.declared.refusal.Refusal.{Refusal}
use Rattle.token.specs.declared.refusal.Refusal.TheVariants.{TextShort}
use Rattle.token.specs.Token.{token_at}
use Rattle.token.proofs.Told.{Told, told_at}
use Rattle.querygrammar.specs.Scalar.{scalar}
use Rattle.querygrammar.specs.Spelling.{key_item, null_item, marks, swu_symbol, swu_ends, swu_range, SwuText, swu_item, swu_meaning, unless}
use Rattle.querygrammar.proofs.Items.{scalar_delimited, symbol_other}
use Rattle.queryitem.specs.declared.reading.Numbers.{Numbers}
use Rattle.queryitem.specs.Numbers.{plain, numbers_of}
use Rattle.queryitem.specs.Pieces.{Piece, piece_at, mark, past, Marked, marked_numbers, marks_at, swu_range_at, swu_at}
use Rattle.queryitem.proofs.Chains.{found_piece, piece_fails, piece_is, second_piece}

-- MARKS

module _ (b : ℕ) (s : List ℕ) (at : ℕ) where
  pub stands_end : length s ≤ at → at ≤ length s → Marked b s at false
  stands_end h k = record { is = optional_over (byte b) s at (omega arith) refl; room = k }

  stands_go : at < length s → (t : Bool) → eqb (get_or s at 0) b ≡ t → Marked b s at t
  stands_go h true e =
      let l = taken 1 1 (byte b) (record { delimited = byte_delimited b; size = λ v ok. refl }) s at b (omega arith, omega arith) (rw (drop-cons s at 0 h, eqb-true (get_or s at 0) b e) refl) in
      record { is = optional_there (byte b) s at b (at + 1) l; room = omega arith }
  stands_go h false e =
      let n : get_or s at 0 ≡ b → ⊥ = λ q. (let z : ◌≡◌ {A = Bool} false true = sym e ∙ eq-eqb (get_or s at 0) b q in let y : ◌≡◌ {A = ℕ} 0 1 = cc in omega arith) in
      record { is = optional_none (byte b) s at (omega arith) (ap (byte b).read (drop-cons s at 0 h) ∙ byte_other b (get_or s at 0) (drop (suc at) s) n); room = omega arith }

  pub stands_here : at < length s → Marked b s at (eqb (get_or s at 0) b)
  stands_here h = stands_go h (eqb (get_or s at 0) b) refl

-- what is left open where its mark stands
pub unmarked : (b own : ℕ) (stands : Bool) (o : Optional ℕ) → ((stands ≡ true) × (o ≡ None)) ⊎ ((stands ≡ false) × (o ≡ Some own)) → plain o ≡ unless (mark b stands) own
unmarked b own stands o (inl w) = rw (w.0, w.1)
unmarked b own stands o (inr w) = rw (w.0, w.1)

pub marked_is : (code base : ℕ) (fill rotation : Option ℕ) (fills rotations : Bool) (n : Numbers) → 1 ≤ code → base ≡ (parts_of code).0 → fill ≡ unless (mark 102 fills) ((parts_of code).1 / 16)
    → rotation ≡ unless (mark 114 rotations) ((parts_of code).1 % 16) → n ≡ numbers_of (key_item base fill rotation) → n ≡ marked_numbers code fills rotations
unfolding marked_numbers
marked_is zero base fill rotation fills rotations n h b f r q = absurd (omega arith)
marked_is (suc c) base fill rotation fills rotations n h b f r q = q ∙ (λ i. numbers_of (key_item (b i) (f i) (r i)))

module _ (s : List ℕ) (at : ℕ) (h : at ≤ length s) (n : Numbers) where
  pub marks_null : (code : ℕ) → code ≡ 0 → n ≡ numbers_of null_item → Ok (n, at) ≡ marks_at code s at
  unfolding locate
  marks_null zero e q = found_piece (marks 0) (λ m. numbers_of null_item) s at (none, none) (length s - length (drop at s)) at n refl (omega (arith, length-drop at s)) q
  marks_null (suc c) e q = absurd (omega arith)

  marks_at_lem : (c : ℕ) (f g : Bool) (i : ℕ) → Marked 102 s at f → i ≡ past f at → Marked 114 s i g → locate (marks (suc c)) s at ≡ found (mark 102 f, mark 114 g) (past g i)
  marks_at_lem c f g i u z v =
      sequence_at_got (optional (byte 102)) (λ f. optional (byte 114)) s at (got 1 (optional (byte 102)) (optional_lawful 1 (byte 102) (byte_delimited 102).lawful) s at h)
      ∙ ap (λ l. and_then l λ a i. on_found {B = Option ℕ × Option ℕ} (λ b. (a, b)) (locate (optional (byte 114)) s i)) (u.is ∙ ap (found (mark 102 f)) (sym z))
      ∙ ap (on_found {B = Option ℕ × Option ℕ} (λ b. (mark 102 f, b))) v.is

  pub marks_found : (code : ℕ) → (code ≡ 0 → ⊥) → (f g : Bool) (i j : ℕ) → Marked 102 s at f → i ≡ past f at → Marked 114 s i g → j ≡ past g i → n ≡ marked_numbers code f g → Ok (n, j) ≡ marks_at code s at
  unfolding marked_numbers
  marks_found zero z f g i j u y v x q = absurd (z refl)
  marks_found (suc c) z f g i j u y v x q =
      found_piece (marks (suc c)) (λ m. numbers_of (swu_meaning (inl (suc c, m)))) s at (mark 102 f, mark 114 g) (past g i) j n (marks_at_lem c f g i u y v) (sym x) q

-- A CHARACTER

pub character_told : (least : ℕ) → least ≤ 1 → (s : List ℕ) (i c : ℕ) (t : Answered ℕ Refusal) → t ≡ token_at (scalar 0x40000 least 62592) s i → t ≡ Ok c → Told 4 (scalar 0x40000 least 62592) s i c
character_told least k s i c t e v =
    told_at 1 4 (scalar 0x40000 least 62592) (record { delimited = scalar_delimited 0x40000 least 62592 (omega arith) (omega arith); size = λ v ok. refl }) s i c (sym e ∙ v)

-- AN ITEM

-- the first of two formats is all there is where the second's unit does not stand
either_alone : {A B : Type 0} (f : Format A) (g : Format B) (s : List ℕ) (at : ℕ) → g.read (drop at s) ≡ other → locate (either f g) s at ≡ on_found inl (locate f s at)
unfolding locate
either_alone {A = A} {B = B} f g s at e = ap (λ r. located (length s) at (or_else (f.read (drop at s)) r)) e ∙ go (f.read (drop at s))
  where
    go : (r : Answer A) → located {A = A ⊎ B} (length s) at (or_else r other) ≡ on_found inl (located (length s) at r)
    go (value a rest) = refl
    go other = refl
    go (wrong rest) = refl
    go short = refl

module _ (least : ℕ) (k : least ≤ 1) (s : List ℕ) (at : ℕ) where
  abbrev numbers : SwuText → Numbers
  numbers a = numbers_of (swu_meaning a)

  pub item_end : length s ≤ at → Err (TextShort (length s)) ≡ swu_at least s at
  unfolding locate
  item_end h = piece_fails (swu_item least) numbers s at (TextShort (length s)) (rw (drop_of_length-le s h) refl)

  pub item_range : at < length s → get_or s at 0 ≡ 82 → (r : Piece) → r ≡ swu_range_at s at → r ≡ swu_at least s at
  item_range h e r =
      second_piece (swu_symbol least) swu_range numbers s at r
      (ap (swu_symbol least).read (drop-cons s at 0 h) ∙ symbol_other least k (get_or s at 0) (drop (suc at) s) (λ z. omega (arith, e, z)))

  pub item_symbol : at < length s → (get_or s at 0 ≡ 82 → ⊥) → (r : Piece) → r ≡ piece_at (swu_symbol least) (λ p. numbers (inl p)) s at → r ≡ swu_at least s at
  item_symbol h n r =
      piece_is (swu_item least) numbers s at (swu_symbol least) inl at r
      (either_alone (swu_symbol least) swu_range s at (ap swu_range.read (drop-cons s at 0 h) ∙ after_byte 82 swu_ends (get_or s at 0) (drop (suc at) s) n))
