-- Laws of tokens of one unit: a function that reads one byte or one character only cites these.
use Prim.Native.Nat.{ℕ, suc, ◌+◌, ◌-◌, ◌≤◌, ◌<◌}
use mathlib.Core.List.{List, [], ◌∷◌}
use mathlib.Core.Path.{◌≡◌, refl, sym, ap, ◌∙◌}
use mathlib.Core.Bool.{Bool, true, false}
use lib.Dec.{ltb}
use lib.ListN.{length, take, drop, get_or, length-drop}
use lib.Seq.{drop-cons}
use native.Mathlib.Omega.{arith}
use borrow.Author.Tests.{lt-ltb, le-ltb, ltb-true, ltb-false}
use Rattle.format.specs.Format.{value, other, Format, choose, unit}
use Rattle.format.specs.Numeral.{Range}
use Rattle.format.specs.Located.{Located, found, wrong_at, short_here, located, locate, on_found}
use Rattle.format.proofs.At.{mapped_at}
use Rattle.charset.specs.Bytes.{byte_of, byte, scalar_of, utf8, character}
use Rattle.std.specs.Prelude.{Result as Answer, Ok, Err}
use Rattle.token.specs.declared.refusal.Refusal.TheVariants.{TextWrong, TextShort}
use Rattle.token.specs.Token.{told, token_at}

located_is : (f : Format ℕ) (s : List ℕ) (at : ℕ) (l : Located ℕ) → locate f s at ≡ l → told (length s) l ≡ token_at f s at
unfolding token_at
located_is f s at l e = ap (told (length s)) (sym e)

module _ (w : ℕ) (of : List ℕ → ℕ) (to : ℕ → List ℕ) (lo hi : ℕ) (s : List ℕ) (at : ℕ) where
  unit_cut : 1 ≤ w → length s < at + w → locate (unit w of to lo hi) s at ≡ short_here
  unfolding locate
  unit_cut k h = rw (lt-ltb (length (drop at s)) w (omega (arith, length-drop at s)))

  -- where there is room, with the number that the unit stands for
  module _ (d : ℕ) (room : at + w ≤ length s) (e : of (take w (drop at s)) ≡ d) where
    tests : (p q : Bool) → ltb d lo ≡ p → ltb hi d ≡ q → locate (unit w of to lo hi) s at ≡ choose p (wrong_at at) (choose q (wrong_at at) (found d (length s - length (drop w (drop at s)))))
    unfolding locate
    tests p q x y = rw (le-ltb (length (drop at s)) w (omega (arith, length-drop at s)), e, x, y) (go p q)
      where
        go : (p q : Bool) → located (length s) at (choose p other (choose q other (value d (drop w (drop at s))))) ≡ choose p (wrong_at at) (choose q (wrong_at at) (found d (length s - length (drop w (drop at s)))))
        go true q = refl
        go false true = refl
        go false false = refl

    unit_below : d < lo → locate (unit w of to lo hi) s at ≡ wrong_at at
    unit_below h = tests true (ltb hi d) (lt-ltb d lo h) refl

    unit_above : lo ≤ d → hi < d → locate (unit w of to lo hi) s at ≡ wrong_at at
    unit_above k h = tests false true (le-ltb d lo k) (lt-ltb hi d h)

    unit-within : lo ≤ d → d ≤ hi → locate (unit w of to lo hi) s at ≡ found d (length s - length (drop w (drop at s)))
    unit-within k h = tests false false (le-ltb d lo k) (le-ltb hi d h)

-- one byte
module _ (of : ℕ → ℕ) (to : ℕ → List ℕ) (lo hi : ℕ) (s : List ℕ) (at : ℕ) where
  abbrev one : Format ℕ
  one = unit 1 (byte_of of) to lo hi

  pub byte_cut : length s ≤ at → Err (TextShort (length s)) ≡ token_at one s at
  byte_cut h = located_is one s at short_here (unit_cut 1 (byte_of of) to lo hi s at (omega arith) (omega arith))

  module _ (d : ℕ) (room : at < length s) (e : d ≡ of (get_or s at 0)) where
    byte-is : byte_of of (take 1 (drop at s)) ≡ d
    byte-is = rw (drop-cons s at 0 room) (sym e)

    pub byte_below : d < lo → Err (TextWrong at) ≡ token_at one s at
    byte_below h = located_is one s at (wrong_at at) (unit_below 1 (byte_of of) to lo hi s at d (omega arith) byte-is h)

    pub byte_above : lo ≤ d → hi < d → Err (TextWrong at) ≡ token_at one s at
    byte_above k h = located_is one s at (wrong_at at) (unit_above 1 (byte_of of) to lo hi s at d (omega arith) byte-is k h)

    pub byte_within : lo ≤ d → d ≤ hi → Ok d ≡ token_at one s at
    byte_within k h = located_is one s at _ (unit-within 1 (byte_of of) to lo hi s at d (omega arith) byte-is k h)

-- a fixed byte
pub byte_other : (b : ℕ) (s : List ℕ) (at : ℕ) → at < length s → (get_or s at 0 ≡ b → ⊥) → Err (TextWrong at) ≡ token_at (byte b) s at
byte_other b s at room n = go (ltb (get_or s at 0) b) refl
  where
    go : (t : Bool) → ltb (get_or s at 0) b ≡ t → Err (TextWrong at) ≡ token_at (byte b) s at
    go true e = byte_below (λ a. a) (λ a. a ∷ []) b b s at (get_or s at 0) room refl (ltb-true (get_or s at 0) b e)
    go false e = let h = ltb-false (get_or s at 0) b e in byte_above (λ a. a) (λ a. a ∷ []) b b s at (get_or s at 0) room refl h (omega (arith, n))

-- one character
pub four_at : (s : List ℕ) (at : ℕ) → at + 4 ≤ length s → take 4 (drop at s) ≡ get_or s at 0 ∷ get_or s (at + 1) 0 ∷ get_or s (at + 2) 0 ∷ get_or s (at + 3) 0 ∷ []
four_at s at room = rw (more 3 at (at + 1) (omega arith) (omega arith), more 2 (at + 1) (at + 2) (omega arith) (omega arith), more 1 (at + 2) (at + 3) (omega arith) (omega arith), more 0 (at + 3) (at + 4) (omega arith) (omega arith))
  where
    more : (n i j : ℕ) → suc i ≡ j → i < length s → take (suc n) (drop i s) ≡ get_or s i 0 ∷ take n (drop j s)
    more n i j e h = rw (drop-cons s i 0 h, e)

module _ (from lo hi : ℕ) (s : List ℕ) (at : ℕ) where
  abbrev code : Format ℕ
  code = unit 4 scalar_of utf8 (from + lo) (from + hi)

  code_is : (l : Located ℕ) → locate code s at ≡ l → told (length s) (on_found (λ c. c - from) l) ≡ token_at (character from lo hi) s at
  code_is l e =
      located_is (character from lo hi) s at (on_found (λ c. c - from) l)
      (mapped_at code (λ c. c - from) (λ n. from + n) (Range lo hi) s at ∙ ap (on_found (λ c. c - from)) e)

  pub character_cut : length s < at + 4 → Err (TextShort (length s)) ≡ token_at (character from lo hi) s at
  character_cut h = code_is short_here (unit_cut 4 scalar_of utf8 (from + lo) (from + hi) s at (omega arith) h)

  module _ (c : ℕ) (room : at + 4 ≤ length s) (e : c ≡ scalar_of (get_or s at 0 ∷ get_or s (at + 1) 0 ∷ get_or s (at + 2) 0 ∷ get_or s (at + 3) 0 ∷ [])) where
    scalar_is : scalar_of (take 4 (drop at s)) ≡ c
    scalar_is = ap scalar_of (four_at s at room) ∙ sym e

    pub character_below : c < from + lo → Err (TextWrong at) ≡ token_at (character from lo hi) s at
    character_below h = code_is (wrong_at at) (unit_below 4 scalar_of utf8 (from + lo) (from + hi) s at c room scalar_is h)

    pub character_above : from + lo ≤ c → from + hi < c → Err (TextWrong at) ≡ token_at (character from lo hi) s at
    character_above k h = code_is (wrong_at at) (unit_above 4 scalar_of utf8 (from + lo) (from + hi) s at c room scalar_is k h)

    pub character_within : from + lo ≤ c → c ≤ from + hi → Ok (c - from) ≡ token_at (character from lo hi) s at
    character_within k h = code_is _ (unit-within 4 scalar_of utf8 (from + lo) (from + hi) s at c room scalar_is k h)
