-- Parts that are read one after the other, and choices: what a part is answered, and so the whole.
use Prim.Native.Nat.{ℕ, ◌+◌}
use mathlib.Core.List.{List}
use mathlib.Core.Path.{◌≡◌, refl, sym, ap, ◌∙◌}
use mathlib.Core.Logic.{◌⊎◌, inl, inr}
use lib.ListN.{length, drop}
use Rattle.format.specs.Format.{other, Format, sequence, either}
use Rattle.format.specs.Located.{Located, found, wrong_at, short_here, locate, and_then, on_found}
use Rattle.format.proofs.Delimited.{Delimited}
use Rattle.format.proofs.At.{sequence_at, either_begun, either_passed}
use Rattle.charset.specs.Bytes.{byte, after}
use Rattle.charset.proofs.Units.{byte_delimited}
use Rattle.charset.proofs.FixedByte.{after_at}
use Rattle.std.specs.Prelude.{Result as Answer, Ok, Err}
use Rattle.token.specs.declared.refusal.Refusal.{Refusal}
use Rattle.token.specs.declared.refusal.Refusal.TheVariants.{TextWrong, TextShort}
use Rattle.token.specs.Token.{told, token_at}
use Rattle.token.proofs.Told.{told_at, told_wrong}
use Rattle.queryitem.specs.declared.reading.Numbers.{Numbers}
use Rattle.queryitem.specs.Pieces.{answered, told_piece, Piece, piece_at}

-- A TOKEN

pub byte_there : (b : ℕ) (s : List ℕ) (at a : ℕ) (t : Answer ℕ Refusal) → t ≡ token_at (byte b) s at → t ≡ Ok a → locate (byte b) s at ≡ found a (at + 1)
byte_there b s at a t e v = (told_at 1 1 (byte b) (record { delimited = byte_delimited b; size = λ v ok. refl }) s at a (sym e ∙ v)).is

pub wrong_token : (f : Format ℕ) (s : List ℕ) (at p : ℕ) (t : Answer ℕ Refusal) → t ≡ token_at f s at → t ≡ Err (TextWrong p) → locate f s at ≡ wrong_at p
unfolding token_at
wrong_token f s at p t e q = told_wrong (length s) (locate f s at) p (sym e ∙ q)

-- A PART THAT FAILS, AND ITS REFUSAL in a text of size bytes

abbrev pub FailsAs : {A : Type 0} → ℕ → Located A → Refusal → Type 0
FailsAs size (found a i) r = ⊥
FailsAs size (wrong_at p) r = r ≡ TextWrong p
FailsAs size short_here r = r ≡ TextShort size

pub told_fails : {A B : Type 0} (to : A → B) (size : ℕ) (l : Located A) (t : Answer B Refusal) (r : Refusal) → t ≡ told size (on_found to l) → t ≡ Err r → FailsAs size l r
told_fails to size (found a i) t r e q = absurd (let z : Ok (to a) ≡ Err r = sym e ∙ q in cc)
told_fails to size (wrong_at p) t r e q = let z : Err (TextWrong p) ≡ Err r = sym e ∙ q in cc
told_fails to size short_here t r e q = let z : Err (TextShort size) ≡ Err r = sym e ∙ q in cc

pub answered_fails : {A B : Type 0} (to : A → ℕ → B) (size : ℕ) (l : Located A) (r : Refusal) → answered to size l ≡ Err r → FailsAs size l r
answered_fails to size (found a i) r q = absurd (cc q)
answered_fails to size (wrong_at p) r q = cc q
answered_fails to size short_here r q = cc q

pub fails_answered : {A B : Type 0} (to : A → ℕ → B) (size : ℕ) (l : Located A) (r : Refusal) → FailsAs size l r → Err r ≡ answered to size l
fails_answered to size (found a i) r h = absurd h
fails_answered to size (wrong_at p) r h = ap Err h
fails_answered to size short_here r h = ap Err h

-- a refusal that names a place
pub fails_wrong : {A : Type 0} (size p : ℕ) (l : Located A) (r : Refusal) → FailsAs size l r → r ≡ TextWrong p → l ≡ wrong_at p
fails_wrong size p (found a i) r h e = absurd h
fails_wrong size p (wrong_at q) r h e = let z : TextWrong q ≡ TextWrong p = sym h ∙ e in let y : q ≡ p = cc in ap wrong_at y
fails_wrong size p short_here r h e = absurd (let z : TextShort size ≡ TextWrong p = sym h ∙ e in cc)

same : (l : Located ℕ) → l ≡ on_found (λ a. a) l
same (found a i) = refl
same (wrong_at p) = refl
same short_here = refl

pub token_fails : (f : Format ℕ) (s : List ℕ) (at : ℕ) (t : Answer ℕ Refusal) (r : Refusal) → t ≡ token_at f s at → t ≡ Err r → FailsAs (length s) (locate f s at) r
unfolding token_at
token_fails f s at t r e = told_fails (λ a. a) (length s) (locate f s at) t r (e ∙ ap (told (length s)) (same (locate f s at)))

-- what may be wrong only where it begins, and is not, ends with the text
pub record Short {A : Type 0} (size : ℕ) (l : Located A) (r : Refusal) : Type 0 where
  pub located : l ≡ short_here
  pub is : r ≡ TextShort size

pub only_short : {A : Type 0} (size at : ℕ) (l : Located A) (r : Refusal) → FailsAs size l r → ((p : ℕ) → l ≡ wrong_at p → p ≡ at) → (r ≡ TextWrong at → ⊥) → Short size l r
only_short size at (found a i) r h w n = absurd h
only_short size at (wrong_at p) r h w n = absurd (n (h ∙ ap TextWrong (w p refl)))
only_short size at short_here r h w n = record { located = refl; is = h }

pub short_token : (f : Format ℕ) (s : List ℕ) (at : ℕ) (t : Answer ℕ Refusal) (r : Refusal) → t ≡ token_at f s at → t ≡ Err r → ((p : ℕ) → locate f s at ≡ wrong_at p → p ≡ at) → (r ≡ TextWrong at → ⊥)
    → Short (length s) (locate f s at) r
short_token f s at t r e q = only_short (length s) at (locate f s at) r (token_fails f s at t r e q)

-- A FORMAT AND ITS ANSWER

module _ {B : Type 0} (f : Format B) (numbers : B → Numbers) (s : List ℕ) (at : ℕ) where
  abbrev answer : Located B → Piece
  answer l = told_piece (length s) (on_found numbers l)

  answer_is : (r : Piece) (l : Located B) → locate f s at ≡ l → r ≡ answer l → r ≡ piece_at f numbers s at
  unfolding piece_at
  answer_is r l e q = q ∙ ap answer (sym e)

  pub found_piece : (v : B) (i next : ℕ) (n : Numbers) → locate f s at ≡ found v i → i ≡ next → n ≡ numbers v → Ok (n, next) ≡ piece_at f numbers s at
  found_piece v i next n e z q = answer_is (Ok (n, next)) (found v next) (e ∙ ap (found v) z) (ap (λ n. Ok (n, next)) q)

  fails_go : (r : Refusal) (l : Located B) → FailsAs (length s) l r → Err r ≡ answer l
  fails_go r (found b i) h = absurd h
  fails_go r (wrong_at p) h = ap Err h
  fails_go r short_here h = ap Err h

  pub piece_fails : (r : Refusal) → FailsAs (length s) (locate f s at) r → Err r ≡ piece_at f numbers s at
  piece_fails r h = answer_is (Err r) (locate f s at) refl (fails_go r (locate f s at) h)

  -- where the first part fails, and where the rest is all of one part
  chain_fails : {A : Type 0} (l : Located A) (k : A → ℕ → Located B) (r : Refusal) → locate f s at ≡ and_then l k → FailsAs (length s) l r → Err r ≡ piece_at f numbers s at
  chain_fails {A = A} l k r e h = answer_is (Err r) (and_then l k) e (go l h)
    where
      go : (l : Located A) → FailsAs (length s) l r → Err r ≡ answer (and_then l k)
      go (found a i) h = absurd h
      go (wrong_at p) h = ap Err h
      go short_here h = ap Err h

  pub piece_is : {C : Type 0} (g : Format C) (to : C → B) (i : ℕ) (r : Piece) → locate f s at ≡ on_found to (locate g s i)
      → r ≡ piece_at g (λ c. numbers (to c)) s i → r ≡ piece_at f numbers s at
  unfolding piece_at
  piece_is {C = C} g to i r e q = answer_is r (on_found to (locate g s i)) e (q ∙ go (locate g s i))
    where
      go : (l : Located C) → told_piece (length s) (on_found (λ c. numbers (to c)) l) ≡ told_piece (length s) (on_found numbers (on_found to l))
      go (found c j) = refl
      go (wrong_at p) = refl
      go short_here = refl

-- one part and then another
module _ {A B : Type 0} (f : Format A) (g : A → Format B) (d : Delimited 1 f) (numbers : A × B → Numbers) (s : List ℕ) (at : ℕ) where
  abbrev goes : A → ℕ → Located (A × B)
  goes a i = on_found (λ b. (a, b)) (locate (g a) s i)

  pub sequence_fails : (r : Refusal) → FailsAs (length s) (locate f s at) r → Err r ≡ piece_at (sequence f g) numbers s at
  sequence_fails r = chain_fails (sequence f g) numbers s at (locate f s at) goes r (sequence_at 1 f g d s at)

  pub sequence_next : (r : Piece) (a : A) (i j : ℕ) → locate f s at ≡ found a i → i ≡ j → r ≡ piece_at (g a) (λ b. numbers (a, b)) s j → r ≡ piece_at (sequence f g) numbers s at
  sequence_next r a i j e z =
      piece_is (sequence f g) numbers s at (g a) (λ b. (a, b)) j r (sequence_at 1 f g d s at ∙ ap (λ l. and_then l goes) (e ∙ ap (found a) z))

-- a fixed byte and then a format
module _ {B : Type 0} (b : ℕ) (f : Format B) (numbers : B → Numbers) (s : List ℕ) (at : ℕ) where
  pub after_fails : (r : Refusal) → FailsAs (length s) (locate (byte b) s at) r → Err r ≡ piece_at (after b f) numbers s at
  after_fails r = chain_fails (after b f) numbers s at (locate (byte b) s at) (λ a i. locate f s i) r (after_at b f s at)

  pub after_next : (r : Piece) (a j : ℕ) → locate (byte b) s at ≡ found a (at + 1) → at + 1 ≡ j → r ≡ piece_at f numbers s j → r ≡ piece_at (after b f) numbers s at
  unfolding piece_at
  after_next r a j e z q = answer_is (after b f) numbers s at r (locate f s j) (after_at b f s at ∙ ap (λ l. and_then l λ a i. locate f s i) (e ∙ ap (found a) z)) q

-- one of two formats
module _ {A B : Type 0} (f : Format A) (g : Format B) (numbers : A ⊎ B → Numbers) (s : List ℕ) (at : ℕ) (r : Piece) where
  pub first_piece : (f.read (drop at s) ≡ other → ⊥) → r ≡ piece_at f (λ a. numbers (inl a)) s at → r ≡ piece_at (either f g) numbers s at
  first_piece n = piece_is (either f g) numbers s at f inl at r (either_begun f g s at n)

  pub second_piece : f.read (drop at s) ≡ other → r ≡ piece_at g (λ b. numbers (inr b)) s at → r ≡ piece_at (either f g) numbers s at
  second_piece e = piece_is (either f g) numbers s at g inr at r (either_passed f g s at e)
