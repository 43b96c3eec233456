-- What the inner functions that read the parts of a query promise: what they answer, and what they put into the words.
use Rattle.std.specs.Prelude.{Result as Answer, Ok, Err, Option as Optional, Some, None, ℕ, ◌+◌, ◌≤◌, ◌≡◌, List, [], ◌∷◌, ◌++◌, Bool, true, false, not, leb, ltb, length}
use Prim.Native.Char.{code}
use Rattle.std.proofs.Math.Option.{some}
use Rattle.std.proofs.lemmas.List.Edits.{sets}
use Rattle.format.specs.Format.{Format, choose, many, every}
use Rattle.format.specs.Places.{Outcome, fine, refused, ends_short}
use Rattle.format.specs.Located.{found, wrong_at, locate, ended}
use Rattle.charset.specs.Bytes.{after}
use Rattle.token.specs.declared.refusal.Refusal.{Refusal}
use Rattle.token.specs.declared.refusal.Refusal.TheVariants.{TextWrong, TextShort}
use Rattle.querygrammar.specs.declared.Edition.{Edition}
use Rattle.querygrammar.specs.Spelling.{Item, spelling}
use Rattle.querygrammar.specs.Query.{list, ListText, SoughtText, prefix_list, signbox_list, alternatives_of, sought_of, figures, variance, variance_of}
use Rattle.queryitem.specs.declared.reading.Numbers.{Numbers}
use Rattle.queryitem.specs.Words.{spare, item_words, items_words, row_words, bare}
use Rattle.queryitem.specs.Numbers.{optionally}
use Rattle.queryitem.specs.Pieces.{answered, item_of}
use Rattle.querypart.specs.declared.alternatives.Listed.{Listed}
use Rattle.querypart.specs.declared.items.Count.{Count}
use Rattle.querypart.specs.Spots.{Spot, all_spots, other_spots, list_spots, first_reversed}

-- THE VARIANCE

-- what stands at the end of a text, as a number
abbrev pub told_end : {A : Type 0} → (A → ℕ) → ℕ → Outcome A → Answer ℕ Refusal
told_end to size (fine a) = Ok (to a)
told_end to size (refused p) = Err (TextWrong p)
told_end to size ends_short = Err (TextShort size)

unfoldable pub figures_end : List ℕ → ℕ → Answer ℕ Refusal
figures_end s at = told_end (λ f. variance_of (some f)) (length s) (ended 1 (length s) (locate figures s at))

unfoldable pub variance_end : List ℕ → ℕ → Answer ℕ Refusal
variance_end s at = told_end variance_of (length s) (ended 1 (length s) (locate variance s at))

-- OFFSETS OF REVERSED RANGES

abbrev pub noted : Numbers → ℕ → Optional ℕ
noted n at = choose (ltb n.hi n.lo) (Some at) None

abbrev pub first_of : List Spot → Optional ℕ
first_of spots = optionally (first_reversed spots)

-- WHAT IS READ INTO THE WORDS

-- its format, where its items stand, what they are, and its words
pub record Sort : Type 1 where
  pub Says : Type 0
  pub format : Format Says
  pub spots : ℕ → Says → List Spot
  pub alternatives : Says → List Item
  pub words : Says → List ℕ

module _ (e : Edition) (boxed : Bool) where
  abbrev pub means : (spelling e).Says → Item
  means = (spelling e).means

  abbrev pub one : Format (spelling e).Says
  one = item_of (spelling e) boxed

  -- one alternative, and a further one after its o
  abbrev pub single : Sort
  single = record {
    Says = (spelling e).Says;
    format = one;
    spots = λ at a. (at, means a) ∷ [];
    alternatives = λ a. means a ∷ [];
    words = λ a. item_words (means a);
  }

  abbrev pub other : Sort
  other = record {
    Says = (spelling e).Says;
    format = after (code "o") one;
    spots = other_spots means;
    alternatives = λ a. means a ∷ [];
    words = λ a. item_words (means a);
  }

  -- alternatives, without their coordinate
  abbrev pub alternatives : Sort
  alternatives = record {
    Says = ListText (spelling e).Says;
    format = list (spelling e).joins one;
    spots = list_spots one means;
    alternatives = alternatives_of means;
    words = λ l. items_words (alternatives_of means l);
  }

-- an item of the signbox (true), or one of the prefix
abbrev pub item : Edition → Bool → Sort
item e true = record {
  Says = SoughtText (spelling e).Says;
  format = signbox_list (spelling e);
  spots = λ at p. list_spots (spelling e).signbox_item (spelling e).means at p.0;
  alternatives = λ p. alternatives_of (spelling e).means p.0;
  words = λ p. row_words (sought_of (spelling e).means p);
}
item e false = record {
  Says = ListText (spelling e).Says;
  format = prefix_list (spelling e);
  spots = list_spots (spelling e).prefix_item (spelling e).means;
  alternatives = alternatives_of (spelling e).means;
  words = λ l. row_words (bare (alternatives_of (spelling e).means l));
}

-- at most eight alternatives
abbrev pub few : {A : Type 0} → List A → Bool
few l = leb (length l) 8

-- ONE OF A SORT: the offset after it, how many alternatives it has and the first that is reversed, or the refusal

abbrev pub listed : (k : Sort) → ℕ → k.Says → ℕ → Listed
listed k at a next = record { next = next; count = length (k.alternatives a); reversed = first_of (k.spots at a) }

-- The words o became p: if it has no more than eight alternatives, its words were put from an offset on; if none is there, nothing was.
pub record OneIn (k : Sort) (s : List ℕ) (at slot : ℕ) (r : Answer Listed Refusal) (o p : List ℕ) : Type 0 where
  pub is : r ≡ answered (listed k at) (length s) (locate k.format s at)
  pub size : length p ≡ length o
  pub still : locate k.format s at ≡ wrong_at at → p ≡ o
  pub holds : (a : k.Says) (next : ℕ) → locate k.format s at ≡ found a next → few (k.alternatives a) ≡ true → p ≡ sets o slot (k.words a)

-- ONE AFTER THE OTHER, of which the first `most` are kept

abbrev pub all_words : (k : Sort) → List k.Says → List ℕ
all_words k [] = []
all_words k (a ∷ l) = k.words a ++ all_words k l

abbrev pub all_few : (k : Sort) → List k.Says → Bool
all_few k l = every (λ a. few (k.alternatives a)) l

abbrev pub listed_all : (k : Sort) → ℕ → List k.Says → ℕ → Listed
listed_all k at l next = record { next = next; count = length l; reversed = first_of (all_spots k.format k.spots at l) }

-- where the next is put
abbrev pub slot_of : ℕ → ℕ → ℕ → ℕ → ℕ
slot_of n most row from = choose (ltb n most) row from

abbrev pub row_slot : ℕ → ℕ → ℕ
row_slot row room = choose (leb (row + 27) room) row 4

pub record AllIn (k : Sort) (most : ℕ) (s : List ℕ) (at from : ℕ) (r : Answer Listed Refusal) (o p : List ℕ) : Type 0 where
  pub is : r ≡ answered (listed_all k at) (length s) (locate (many k.format) s at)
  pub size : length p ≡ length o
  pub below : (l : List k.Says) (next : ℕ) → locate (many k.format) s at ≡ found l next → length l ≤ length s
  pub holds : (l : List k.Says) (next : ℕ) → locate (many k.format) s at ≡ found l next → length l ≤ most → all_few k l ≡ true
      → p ≡ sets o from (all_words k l)

-- ITEMS OF THE SIGNBOX OR OF THE PREFIX: as above, with whether one has more than eight alternatives, and the offset after the rows

abbrev pub counted : (k : Sort) → ℕ → ℕ → List k.Says → ℕ → Count
counted k row at l next = record {
  next = next;
  count = length l;
  reversed = first_of (all_spots k.format k.spots at l);
  crowded = not (all_few k l);
  row = row;
}

pub record ItemsIn (e : Edition) (boxed : Bool) (s : List ℕ) (at from : ℕ) (r : Answer Count Refusal) (o p : List ℕ) : Type 0 where
  pub row : ℕ
  pub is : r ≡ answered (counted (item e boxed) row at) (length s) (locate (many (item e boxed).format) s at)
  pub size : length p ≡ length o
  pub room : row ≤ length o
  pub holds : (l : List (item e boxed).Says) (next : ℕ) → locate (many (item e boxed).format) s at ≡ found l next → from + length (all_words (item e boxed) l) + spare ≤ length o → all_few (item e boxed) l ≡ true
      → (p ≡ sets o from (all_words (item e boxed) l)) × (row ≡ from + length (all_words (item e boxed) l))
