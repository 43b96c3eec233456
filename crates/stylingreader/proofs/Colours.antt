-- A colour, byte by byte: one law for each return of a function that reads it.
use Prim.Native.Nat.{ℕ, suc, ◌+◌, ◌-◌, ◌≤◌, ◌<◌, min}
use mathlib.Core.List.{List, [], ◌∷◌, ◌++◌}
use mathlib.Core.Path.{◌≡◌, refl, sym, ap, ◌∙◌}
use mathlib.Core.Bool.{Bool, true, false, ◌&&◌}
use lib.Dec.{ltb, leb}
use lib.ListN.{length, take, drop, get_or, set, length-append, length-drop, length-set, drop_of_length-le}
use lib.Seq.{sets, drop-cons, take_all, take-append-le}
use native.Mathlib.Omega.{arith}
use borrow.Author.Tests.{lt-ltb, le-ltb, ltb-true, ltb-false}
use Rattle.format.specs.Format.{value, other, wrong, short, choose, every}
use Rattle.format.specs.Located.{found, wrong_at, short_here, located, locate}
use Rattle.format.proofs.Lists.{every_snoc}
use Rattle.token.proofs.PaddedLists.{sets_append}
use Rattle.stylinggrammar.specs.Word.{stopped, go_on}
use Rattle.stylinggrammar.specs.Styling.{among, letter, hexadecimal, is_colour, begins_colour, colour}
use Rattle.stylinggrammar.specs.Filling.{put_colour}
use Rattle.std.specs.Prelude.{Result as Answer, Ok, Err}
use Rattle.std.specs.Char.{is_ascii_alphabetic, is_ascii_hexdigit}
use Rattle.std.proofs.Math.Bool.{or_assoc}
use Rattle.token.specs.declared.refusal.Refusal.{Refusal}
use Rattle.stylingreader.specs.declared.part.Part.{Part}
use Rattle.stylingreader.specs.Parts.{PartIn, PartIs, missing}
use Rattle.stylingreader.specs.Takings.{goes_on, is_whole, kept_byte, colour_part, ColourEnds, take_colour}
use Rattle.stylingreader.proofs.Fixed.{missing_at}
use Rattle.stylingreader.proofs.Chains.{part_as, missing_part_lem}

-- THE TESTS

pub letter_is : (b : ℕ) → is_ascii_alphabetic b ≡ letter b
unfolding letter
letter_is b = refl

pub hexadecimal_is : (b : ℕ) → is_ascii_hexdigit b ≡ hexadecimal b
unfolding hexadecimal
hexadecimal_is b = or_assoc (among 48 57 b) (among 65 70 b) (among 97 102 b)

-- A BYTE MORE

kept_size : (o : List ℕ) (at n b : ℕ) → length (kept_byte o at n b) ≡ length o
unfolding kept_byte
kept_size o at n b = go (ltb n 24)
  where
    go : (t : Bool) → length (choose t (set o (at + 1 + n) b) o) ≡ length o
    go true = length-set o (at + 1 + n) b
    go false = refl

kept_more : (o : List ℕ) (at : ℕ) (word : List ℕ) (b : ℕ)
    → kept_byte (sets o (at + 1) (take 24 word)) at (length word) b ≡ sets o (at + 1) (take 24 (word ++ (b ∷ [])))
unfolding kept_byte
kept_more o at word b = go (ltb (length word) 24) refl
  where
    go : (t : Bool) → ltb (length word) 24 ≡ t
        → choose t (set (sets o (at + 1) (take 24 word)) (at + 1 + length word) b) (sets o (at + 1) (take 24 word)) ≡ sets o (at + 1) (take 24 (word ++ (b ∷ [])))
    go true e =
        let h : length word < 24 = ltb-true (length word) 24 e in
        let l = length-append word (b ∷ []) in
        rw (take_all 24 word (omega arith), take_all 24 (word ++ (b ∷ [])) (omega arith)) (sets_append word (b ∷ []) o (at + 1))
    go false e = ap (sets o (at + 1)) (sym (take-append-le 24 word (b ∷ []) (ltb-false (length word) 24 e)))

-- THE LOOP

-- What the loop knows: these bytes were read up to i, and what is left leads to the same whole.
pub record ColourInv (s : List ℕ) (at base i : ℕ) (letters digits : Bool) (o p : List ℕ) : Type 0 where
  pub word : List ℕ
  pub inside : i ≤ length s
  pub offset : i ≡ at + length word
  pub leads : colour.read (drop at s) ≡ go_on begins_colour is_colour word (drop i s)
  pub lettered : letters ≡ every letter word
  pub digital : digits ≡ every hexadecimal word
  pub size : length p ≡ length o
  pub held : p ≡ sets o (base + 1) (take 24 word)

begins_is : (c : List ℕ) → begins_colour c ≡ goes_on (every letter c) (every hexadecimal c) (length c)
unfolding begins_colour
begins_is c = refl

colour_is : (c : List ℕ) → is_colour c ≡ is_whole (every letter c) (every hexadecimal c) (length c)
unfolding is_colour is_whole
colour_is c = refl

module _ (s : List ℕ) (at base i : ℕ) (letters digits : Bool) (o p : List ℕ) (v : ColourInv s at base i letters digits o p) where
  -- what the next byte makes of the tests
  module _ (h : i < length s) (l d w : Bool) (y : l ≡ (letters && letter (get_or s i 0))) (q : d ≡ (digits && hexadecimal (get_or s i 0))) (e : w ≡ goes_on l d (i - at + 1)) where
    abbrev b : ℕ
    b = get_or s i 0

    all-letters : l ≡ every letter (v.word ++ (b ∷ []))
    all-letters = y ∙ ap (λ t. t && letter b) v.lettered ∙ sym (every_snoc letter v.word b)

    all_digits : d ≡ every hexadecimal (v.word ++ (b ∷ []))
    all_digits = q ∙ ap (λ t. t && hexadecimal b) v.digital ∙ sym (every_snoc hexadecimal v.word b)

    longer : i - at + 1 ≡ length (v.word ++ (b ∷ []))
    longer = omega (arith, v.offset, length-append v.word (b ∷ []))

    tested : w ≡ begins_colour (v.word ++ (b ∷ []))
    tested = e ∙ (λ j. goes_on (all-letters j) (all_digits j) (longer j)) ∙ sym (begins_is (v.word ++ (b ∷ [])))

    steps : go_on begins_colour is_colour v.word (drop i s)
        ≡ choose w (go_on begins_colour is_colour (v.word ++ (b ∷ [])) (drop (i + 1) s)) (stopped begins_colour is_colour v.word (drop i s))
    steps = rw (drop-cons s i 0 h, tested, (let k : i + 1 ≡ suc i = omega arith in k))

    pub colour_on : w ≡ true → (m : List ℕ) → m ≡ kept_byte p base (i - at) b → ColourInv s at base (i + 1) l d o m
    colour_on g m k = record {
      word = v.word ++ (b ∷ []);
      inside = omega arith;
      offset = omega (arith, v.offset, length-append v.word (b ∷ []));
      leads = v.leads ∙ steps ∙ rw g;
      lettered = all-letters;
      digital = all_digits;
      size = ap length k ∙ kept_size p base (i - at) b ∙ v.size;
      held =
          k ∙ ap (λ n. kept_byte p base n b) (omega (arith, v.offset)) ∙ ap (λ p. kept_byte p base (length v.word) b) v.held ∙ kept_more o base v.word b;
    }

    stops-here : w ≡ false → colour.read (drop at s) ≡ stopped begins_colour is_colour v.word (drop i s)
    stops-here g = v.leads ∙ steps ∙ rw g

  over : length s ≤ i → colour.read (drop at s) ≡ stopped begins_colour is_colour v.word (drop i s)
  over h = let z : drop i s ≡ [] = drop_of_length-le s h in v.leads ∙ rw z

  -- what is located where no byte goes on
  stops_go : (word text : List ℕ) → i ≡ at + length word → drop i s ≡ text
      → located (length s) at (stopped begins_colour is_colour word text) ≡ choose (is_colour word) (found word i) (missing_at s i)
  stops_go word [] k e =
      let n : length s ≤ i = omega (arith, ap length e, length-drop i s) in
      rw (le-ltb i (length s) n) (go (is_colour word) (let x = v.inside in omega arith))
    where
      go : (t : Bool) → length s - 0 ≡ i → located (length s) at (choose t (value word []) short) ≡ choose t (found word i) short_here
      go true q = ap (found word) q
      go false q = refl
  stops_go [] (c ∷ text) k e =
      let n : i < length s = omega (arith, ap length e, length-drop i s) in
      rw (lt-ltb i (length s) n) (go (is_colour []) (omega (arith, ap length e, length-drop i s)) (omega arith))
    where
      go : (t : Bool) → length s - suc (length text) ≡ i → at ≡ i → located {A = List ℕ} (length s) at (choose t (value [] (c ∷ text)) other) ≡ choose t (found [] i) (wrong_at i)
      go true q r = ap (found []) q
      go false q r = ap wrong_at r
  stops_go (a ∷ word) (c ∷ text) k e =
      let n : i < length s = omega (arith, ap length e, length-drop i s) in
      rw (lt-ltb i (length s) n) (go (is_colour (a ∷ word)) (omega (arith, ap length e, length-drop i s)))
    where
      go : (t : Bool) → length s - suc (length text) ≡ i
          → located (length s) at (choose t (value (a ∷ word) (c ∷ text)) (wrong (c ∷ text))) ≡ choose t (found (a ∷ word) i) (wrong_at i)
      go true q = ap (found (a ∷ word)) q
      go false q = ap wrong_at q

  ends_go : (n : ℕ) (t : Bool) (m : List ℕ) → n ≡ length v.word → m ≡ set p base (min 25 n)
      → PartIs (length s) (take_colour base) (choose t (found v.word i) (missing_at s i))
      (choose t (Ok (record { zooms = true; place = i; names = leb n 24; amount = 0 })) (Err (missing s i))) o m
  unfolding put_colour
  ends_go n true m k e = record {
    place = refl;
    zooms = refl;
    names = ap (λ n. leb n 24) k;
    amount = refl;
    holds = e ∙ (λ j. set (v.held j) base (min 25 (k j)));
  }
  ends_go n false m k e = missing_part_lem (take_colour base) s i o m

  ended : colour.read (drop at s) ≡ stopped begins_colour is_colour v.word (drop i s) → (n : ℕ) → n ≡ i - at → (r : Answer Part Refusal) (m : List ℕ)
      → ColourEnds s i base n letters digits r p m → PartIn colour (take_colour base) s at r o m
  unfolding locate colour_part
  ended e n k r m c =
      let q : n ≡ length v.word = omega (arith, v.offset) in
      let y : is_whole letters digits n ≡ is_colour v.word = (λ j. is_whole (v.lettered j) (v.digital j) (q j)) ∙ sym (colour_is v.word) in
      part_as colour (take_colour base) s at (choose (is_colour v.word) (found v.word i) (missing_at s i)) r o m
      (ap (located (length s) at) e ∙ stops_go v.word (drop i s) v.offset refl)
      (rw (c.is, y) (ends_go n (is_colour v.word) m q c.holds))

  pub colour_over : length s ≤ i → (r : Answer Part Refusal) (m : List ℕ) → ColourEnds s (length s) base (length s - at) letters digits r p m
      → PartIn colour (take_colour base) s at r o m
  colour_over h r m c = let z : i ≡ length s = let x = v.inside in omega arith in ended (over h) (i - at) refl r m (rw z c)

  pub colour_stops : (h : i < length s) (l d w : Bool) → l ≡ (letters && letter (get_or s i 0)) → d ≡ (digits && hexadecimal (get_or s i 0))
      → w ≡ goes_on l d (i - at + 1) → w ≡ false → (r : Answer Part Refusal) (m : List ℕ) → ColourEnds s i base (i - at) letters digits r p m → PartIn colour (take_colour base) s at r o m
  colour_stops h l d w y q e g = ended (stops-here h l d w y q e g) (i - at) refl
