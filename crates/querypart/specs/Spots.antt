-- Where the items of a query stand in its text, and the order of ranges (document 01, "A query"; document 02, Q-9).
use Rattle.std.specs.Prelude.{ℕ, ◌+◌, List, [], ◌∷◌, ◌++◌, Bool, false, ltb, length}
use Prim.Native.Char.{code}
use Rattle.std.proofs.Math.Option.{Option, none, some}
use Rattle.format.specs.Format.{Format, choose}
use Rattle.charset.specs.Bytes.{after}
use Rattle.querygrammar.specs.Spelling.{Item, key_item, range_item, null_item}
use Rattle.querygrammar.specs.Query.{ListText}

abbrev pub reversed : Item → Bool
reversed (key_item base fill rotation) = false
reversed (range_item from to) = ltb to from
reversed null_item = false

-- an item and the offset of its first byte
abbrev pub Spot : Type 0
Spot = ℕ × Item

-- those of values that are written one after the other from an offset on
abbrev pub all_spots : {A : Type 0} → Format A → (ℕ → A → List Spot) → ℕ → List A → List Spot
all_spots f spots at [] = []
all_spots f spots at (a ∷ l) = spots at a ++ all_spots f spots (at + length (f.write a)) l

-- alternatives: the first, and the others each after its o
abbrev pub other_spots : {A : Type 0} → (A → Item) → ℕ → A → List Spot
other_spots means at a = (at + 1, means a) ∷ []

abbrev pub list_spots : {A : Type 0} → Format A → (A → Item) → ℕ → ListText A → List Spot
list_spots f means at l = (at, means l.0) ∷ all_spots (after (code "o") f) (other_spots means) (at + length (f.write l.0)) l.1

-- the offset of the first that is reversed
abbrev pub first_reversed : List Spot → Option ℕ
first_reversed [] = none
first_reversed (spot ∷ l) = choose (reversed spot.1) (some spot.0) (first_reversed l)
