-- What a caller knows of an item and of a coordinate, as they are answered.
use Prim.Native.Nat.{ℕ}
use mathlib.Core.List.{List}
use mathlib.Core.Path.{◌≡◌, refl, sym}
use mathlib.Core.Bool.{Bool, true, false, not, true≢false}
use mir.Val.{bool_byte}
use mathlib.Core.Option.{Option}
use lib.ListN.{length}
use Rattle.format.specs.Format.{optional}
use Rattle.format.specs.Located.{Located, found, wrong_at, short_here, locate, on_found}
use Rattle.charset.specs.declared.Charset.TheVariants.{Fsw, Swu}
use Rattle.token.specs.Result.{outcome, of_located}
use Rattle.querygrammar.specs.declared.Edition.{Edition}
use Rattle.querygrammar.specs.declared.Edition.TheVariants.{First, Second}
use Rattle.querygrammar.specs.Spelling.{spelling}
use Rattle.querygrammar.specs.Query.{coordinate}
use Rattle.querygrammar.proofs.Lists.{Laws, Unmarked}
use Rattle.querygrammar.proofs.Items.{lawful}
use Rattle.queryitem.specs.declared.reading.Numbers.{Numbers}
use Rattle.std.specs.Prelude.{Ok, Err, Result as Answer, Option as Optional}
use Rattle.token.specs.declared.refusal.Refusal.{Refusal}
use Rattle.queryitem.specs.Numbers.{optionally, numbers_of}
use Rattle.queryitem.specs.Pieces.{told_piece, Piece, piece_at, fsw_at, swu_at, item_of, in_swu, has_null, item_at, coordinate_at, PieceResult, PlaceResult}
use Rattle.queryitem.proofs.Chains.{FailsAs}

pub item_first : (boxed : Bool) (s : List ℕ) (at : ℕ) → fsw_at false s at ≡ item_at First boxed s at
unfolding item_at
item_first true s at = refl
item_first false s at = refl

pub item_fsw : (boxed : Bool) (s : List ℕ) (at : ℕ) → fsw_at (not boxed) s at ≡ item_at (Second Fsw) boxed s at
unfolding item_at
item_fsw true s at = refl
item_fsw false s at = refl

pub item_swu : (boxed : Bool) (s : List ℕ) (at : ℕ) → swu_at (bool_byte boxed) s at ≡ item_at (Second Swu) boxed s at
unfolding item_at
item_swu true s at = refl
item_swu false s at = refl

-- by the two tests of an edition
pub item_in_fsw : (e : Edition) (boxed : Bool) (s : List ℕ) (at : ℕ) → in_swu e ≡ false → fsw_at (has_null e boxed) s at ≡ item_at e boxed s at
item_in_fsw First boxed s at n = item_first boxed s at
item_in_fsw (Second Fsw) boxed s at n = item_fsw boxed s at
item_in_fsw (Second Swu) boxed s at n = absurd (true≢false n)

pub edition_in_swu : (e : Edition) → in_swu e ≡ true → e ≡ Second Swu
edition_in_swu First y = absurd (true≢false (sym y))
edition_in_swu (Second Fsw) y = absurd (true≢false (sym y))
edition_in_swu (Second Swu) y = refl

pub item_laws : (e : Edition) (boxed : Bool) → Laws Unmarked (item_of (spelling e) boxed)
item_laws e true = (lawful e).signbox_item
item_laws e false = (lawful e).prefix_item

-- WHAT WAS LOCATED, for each answer

module _ (e : Edition) (boxed : Bool) (s : List ℕ) (at : ℕ) where
  abbrev located : Located (spelling e).Says
  located = locate (item_of (spelling e) boxed) s at

  abbrev numbers : (spelling e).Says → Numbers
  numbers a = numbers_of ((spelling e).means a)

  pub record FoundItem (n : Numbers) (next : ℕ) : Type 0 where
    pub says : (spelling e).Says
    pub is : located ≡ found says next
    pub means : n ≡ numbers says

  abbrev pub ItemLocated : Piece → Type 0
  ItemLocated (Ok p) = FoundItem p.0 p.1
  ItemLocated (Err r) = FailsAs (length s) located r

  pub item_located : (r : Piece) → r ≡ item_at e boxed s at → ItemLocated r
  unfolding item_at piece_at
  item_located r q = rw q (go located refl)
    where
      go : (l : Located (spelling e).Says) → located ≡ l → ItemLocated (told_piece (length s) (on_found numbers l))
      go (found a i) z = record { says = a; is = z; means = refl }
      go (wrong_at p) z = rw z refl
      go short_here z = rw z refl

module _ (e : Edition) (s : List ℕ) (at : ℕ) where
  abbrev placed : Located (Option (ℕ × ℕ))
  placed = locate (optional (coordinate (spelling e))) s at

  pub record FoundPlace (c : Optional (ℕ × ℕ)) (next : ℕ) : Type 0 where
    pub says : Option (ℕ × ℕ)
    pub is : placed ≡ found says next
    pub means : c ≡ optionally says

  abbrev pub PlaceLocated : Answer (Optional (ℕ × ℕ) × ℕ) Refusal → Type 0
  PlaceLocated (Ok p) = FoundPlace p.0 p.1
  PlaceLocated (Err r) = FailsAs (length s) placed r

  pub place_located : (r : Answer (Optional (ℕ × ℕ) × ℕ) Refusal) → r ≡ coordinate_at e s at → PlaceLocated r
  unfolding coordinate_at
  place_located r q = rw q (go placed refl)
    where
      go : (l : Located (Option (ℕ × ℕ))) → placed ≡ l → PlaceLocated (told_piece (length s) (on_found optionally l))
      go (found p i) z = record { says = p; is = z; means = refl }
      go (wrong_at p) z = rw z refl
      go short_here z = rw z refl

-- WHAT THEY COME TO

come : {A : Type 0} (size : ℕ) (l : Located A) → outcome (told_piece size l) ≡ of_located size l
come size (found n next) = refl
come size (wrong_at p) = refl
come size short_here = refl

pub piece_result_lem : PieceResult
unfolding item_at piece_at
piece_result_lem e boxed s at = come (length s) (on_found (λ a. numbers_of ((spelling e).means a)) (locate (item_of (spelling e) boxed) s at))

pub place_result_lem : PlaceResult
unfolding coordinate_at
place_result_lem e s at = come (length s) (on_found optionally (locate (optional (coordinate (spelling e))) s at))
