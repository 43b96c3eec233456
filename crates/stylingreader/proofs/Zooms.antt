-- A zoom, digit by digit: one law for each return of a function that reads it.
use Prim.Native.Nat.{ℕ, suc, ◌+◌, ◌-◌, ◌*◌, ◌≤◌, ◌<◌, min}
use mathlib.Core.List.{List, [], ◌∷◌, ◌++◌}
use mathlib.Core.Path.{◌≡◌, refl, sym, ap, ◌∙◌}
use mathlib.Core.Bool.{Bool, true, false, ◌&&◌}
use mathlib.Core.Option.{Option, none, some}
use lib.Dec.{ltb, leb}
use lib.ListN.{length, get_or, set, length-append}
use native.Mathlib.Omega.{arith}
use borrow.Author.Tests.{ne_eqb, lt-ltb, le-ltb, le-leb, lt-leb, ltb-true, ltb-false, leb-true, leb-false}
use Rattle.format.specs.Format.{Format, choose, many, optional, All}
use Rattle.format.specs.Located.{Located, found, wrong_at, short_here, locate, and_then, on_found}
use Rattle.format.proofs.Lists.{all_append}
use Rattle.format.proofs.Loop.{Walk, walk_on, walk_stop, walk_end}
use Rattle.format.proofs.Ends.{one_or_more, one_or_more_lem}
use Rattle.format.proofs.Open.{delimited_open}
use Rattle.charset.specs.Bytes.{digit_of, digit_byte, digit, after}
use Rattle.std.specs.Prelude.{Result as Answer, Ok, Err}
use Rattle.token.specs.declared.refusal.Refusal.{Refusal}
use Rattle.token.specs.Token.{token_at}
use Rattle.token.proofs.Told.{told_at, told_wrong}
use Rattle.token.proofs.Units.{byte_above, byte_within}
use Rattle.stylinggrammar.specs.Styling.{among, Figures, figures, Decimal, decimal}
use Rattle.stylinggrammar.specs.Meaning.{onward, wholes, cents, few_decimals}
use Rattle.stylinggrammar.proofs.Tests.{among_range, among_true, false_true}
use Rattle.stylinggrammar.proofs.Styling.{figure_delimited, figures_lawful}
use Rattle.stylinggrammar.specs.Filling.{zoom_word}
use Rattle.stylingreader.specs.declared.part.Part.{Part}
use Rattle.stylingreader.specs.Parts.{PartIn, PartIs, missing, stands_at}
use Rattle.stylingreader.specs.Takings.{amount_of, with_digit, few_digits, take_figures, FiguresIn, figures_part, zoom_part, ZoomPut, take_zoom}
use Rattle.stylingreader.proofs.Marks.{stands_so, stands_room}
use Rattle.stylingreader.proofs.Fixed.{maybe_there, maybe_absent}
use Rattle.stylingreader.proofs.Chains.{Taken, taken, part_as, part_fails, sequence_is, missing_part_lem}

-- ONE DIGIT

digit_is : (b : ℕ) → among 48 57 b ≡ true → b - 48 ≡ digit_of b
unfolding digit_of
digit_is b e =
    let r = among_range 48 57 b e in
    rw (le-ltb b 48 r.0, lt-ltb b 58 (omega (arith, r.1)))

digit_over : (b : ℕ) → among 48 57 b ≡ false → 9 < digit_of b
unfolding digit_of
digit_over b e = below (ltb b 48) refl
  where
    late : (t : Bool) → 97 ≤ b → 9 < choose t (b - 87) 16
    late true h = omega arith
    late false h = omega arith

    middle : (t : Bool) → ltb b 97 ≡ t → 9 < choose t 16 (choose (ltb b 103) (b - 87) 16)
    middle true q = omega arith
    middle false q = late (ltb b 103) (ltb-false b 97 q)

    above : (t : Bool) → ltb b 58 ≡ t → 48 ≤ b → 9 < choose t (b - 48) (choose (ltb b 97) 16 (choose (ltb b 103) (b - 87) 16))
    above true q h = let k : b < 58 = ltb-true b 58 q in false_true (sym e ∙ among_true 48 57 b (h, omega arith))
    above false q h = middle (ltb b 97) refl

    below : (t : Bool) → ltb b 48 ≡ t → 9 < choose t 16 (choose (ltb b 58) (b - 48) (choose (ltb b 97) 16 (choose (ltb b 103) (b - 87) 16)))
    below true q = omega arith
    below false q = above (ltb b 58) refl (ltb-false b 48 q)

module _ (s : List ℕ) (i : ℕ) (h : i < length s) where
  digit_there : among 48 57 (get_or s i 0) ≡ true → locate (digit 0 9) s i ≡ found (get_or s i 0 - 48) (i + 1)
  digit_there e =
      let r = among_range 48 57 (get_or s i 0) e in
      (told_at 1 1 (digit 0 9) (record { delimited = figure_delimited; size = λ v ok. refl }) s i (get_or s i 0 - 48)
      (sym (byte_within digit_of (λ d. digit_byte d ∷ []) 0 9 s i (get_or s i 0 - 48) h (digit_is (get_or s i 0) e) (omega arith) (omega (arith, r.1))))).is

  digit_not : among 48 57 (get_or s i 0) ≡ false → locate (digit 0 9) s i ≡ wrong_at i
  unfolding token_at
  digit_not e =
      told_wrong (length s) (locate (digit 0 9) s i) i
      (sym (byte_above digit_of (λ d. digit_byte d ∷ []) 0 9 s i (digit_of (get_or s i 0)) h refl (omega arith) (digit_over (get_or s i 0) e)))

-- WHAT DIGITS COME TO

onward_snoc : (n : ℕ) (l : List ℕ) (d : ℕ) → onward n (l ++ (d ∷ [])) ≡ onward n l * 10 + d
onward_snoc n [] d = refl
onward_snoc n (a ∷ l) d = onward_snoc (n * 10 + a) l d

with_more : (decimals : Bool) (l : List ℕ) (d : ℕ) → with_digit decimals (amount_of decimals l) (length l) d ≡ amount_of decimals (l ++ (d ∷ []))
unfolding with_digit
with_more false l d = omega (arith, onward_snoc 0 l d)
with_more true [] d = refl
with_more true (a ∷ []) d = refl
with_more true (a ∷ b ∷ l) d = rw (ne_eqb (suc (suc (length l))) 0 (λ e. omega arith), ne_eqb (suc (suc (length l))) 1 (λ e. omega arith))

amount_small : (decimals : Bool) (l : List ℕ) → All (λ d. d ≤ 9) l → amount_of decimals l ≤ 100
amount_small false l ok = omega arith
amount_small true [] ok = omega arith
amount_small true (a ∷ []) ok = omega (arith, ok.0)
amount_small true (a ∷ b ∷ l) ok = omega (arith, ok.0, ok.1.0)

-- THE LOOP

-- What the loop knows: these digits were read up to i, and what is left leads to the same whole.
pub record FiguresInv (decimals : Bool) (s : List ℕ) (at i v : ℕ) : Type 0 where
  pub read : List ℕ
  pub walk : Walk (digit 0 9) s at i read
  pub offset : i ≡ at + length read
  pub amount : v ≡ amount_of decimals read
  pub digits : All (λ d. d ≤ 9) read
  pub small : v ≤ 100

module _ (decimals : Bool) (s : List ℕ) (at i v : ℕ) (k : FiguresInv decimals s at i v) where
  module _ (h : i < length s) (t : among 48 57 (get_or s i 0) ≡ true) where
    pub figure_small : (48 ≤ get_or s i 0) × (get_or s i 0 - 48 ≤ 9)
    figure_small = let r = among_range 48 57 (get_or s i 0) t in (r.0, omega (arith, r.1))

    pub figures_on : (w n : ℕ) → n ≡ get_or s i 0 - 48 → w ≡ with_digit decimals v (i - at) n → FiguresInv decimals s at (i + 1) w
    figures_on w n e y =
        let q = y ∙ ap (with_digit decimals v (i - at)) e in
        let d = get_or s i 0 - 48 in
        let l = k.read in
        let z : w ≡ amount_of decimals (l ++ (d ∷ [])) =
        q ∙ (λ j. with_digit decimals (k.amount j) (i - at) d) ∙ ap (λ n. with_digit decimals (amount_of decimals l) n d) (omega (arith, k.offset)) ∙ with_more decimals l d in
        let all = all_append (λ d. d ≤ 9) l (d ∷ []) k.digits (figure_small.1, tt) in
        record {
          read = l ++ (d ∷ []);
          walk = walk_on 1 (digit 0 9) figure_delimited s at i l k.walk d (i + 1) (digit_there s i h t);
          offset = omega (arith, k.offset, length-append l (d ∷ []));
          amount = z;
          digits = all;
          small = rw z (amount_small decimals (l ++ (d ∷ [])) all);
        }

  start : at ≤ length s
  start = let x = k.walk.inside in omega (arith, k.offset)

  end_go : (l : List ℕ) → i ≡ at + length l → v ≡ amount_of decimals l
      → PartIs (length s) (take_figures decimals) (one_or_more (length s) (found l i)) (figures_part s at i v decimals) [] []
  unfolding figures_part
  end_go [] o q =
      let z : i ≡ at = omega arith in
      rw (le-ltb at i (omega arith), z) (missing_part_lem (take_figures decimals) s at [] [])
  end_go (a ∷ l) o q =
      rw (lt-ltb at i (omega arith))
      (record { place = refl; zooms = ap (few_digits decimals) (omega arith); names = refl; amount = q; holds = refl })

  small_go : (t : Bool) (r : Part) → choose t (Ok (record { zooms = few_digits decimals (i - at); place = i; names = true; amount = v })) (Err (missing s at)) ≡ Ok r → r.amount ≤ 100
  small_go true r e = let q : v ≡ r.amount = cc in let h = k.small in omega arith
  small_go false r e = absurd (cc e)

  figures_as : locate (many (digit 0 9)) s at ≡ found k.read i → (r : Answer Part Refusal) → r ≡ figures_part s at i v decimals → FiguresIn decimals s at r
  unfolding figures_part
  figures_as e r q =
      rw q (record {
        part = part_as figures (take_figures decimals) s at (one_or_more (length s) (found k.read i)) (figures_part s at i v decimals) [] []
            (one_or_more_lem 1 (digit 0 9) (delimited_open 1 (digit 0 9) figure_delimited) s at start ∙ ap (one_or_more (length s)) e) (end_go k.read k.offset k.amount);
        small = small_go (ltb at i);
      })

  pub figures_over : length s ≤ i → (r : Answer Part Refusal) → r ≡ figures_part s at (length s) v decimals → FiguresIn decimals s at r
  figures_over h r e =
      let z : length s ≡ i = let x = k.walk.inside in omega arith in
      figures_as (walk_end 1 (digit 0 9) figure_delimited s at i k.read k.walk h) r (e ∙ ap (λ i. figures_part s at i v decimals) z)

  pub figures_stop : i < length s → among 48 57 (get_or s i 0) ≡ false → (r : Answer Part Refusal) → r ≡ figures_part s at i v decimals → FiguresIn decimals s at r
  figures_stop h n = figures_as (walk_stop 1 (digit 0 9) figure_delimited s at i k.read k.walk (digit_not s i h n))

-- THE ZOOM

-- 100 or more is no zoom, whatever the decimals
capped_go : (w c : ℕ) (t : Bool) → ltb w 100 ≡ t → among 1 9999 (min 100 w * 100 + c) ≡ among 1 9999 (w * 100 + c)
capped_go w c true e = let h : w < 100 = ltb-true w 100 e in ap (λ n. among 1 9999 (n * 100 + c)) (omega arith)
capped_go w c false e =
    let h : 100 ≤ w = ltb-false w 100 e in
    rw (le-leb 1 (min 100 w * 100 + c) (omega arith), lt-leb (min 100 w * 100 + c) 9999 (omega arith), le-leb 1 (w * 100 + c) (omega arith), lt-leb (w * 100 + c) 9999 (omega arith))

capped : (w c : ℕ) → among 1 9999 (min 100 w * 100 + c) ≡ among 1 9999 (w * 100 + c)
capped w c = capped_go w c (ltb w 100) refl

whole_amount : (f : Figures) → amount_of false (f.0 ∷ f.1) ≡ min 100 (onward f.0 f.1)
whole_amount f = ap (λ n. min 100 (onward n f.1)) (omega arith)

cents_amount : (a : ℕ) (l : List ℕ) → amount_of true (a ∷ l) ≡ cents (some (a, l))
cents_amount a [] = refl
cents_amount a (b ∷ l) = refl

cents_few : (a : ℕ) (l : List ℕ) → few_digits true (1 + length l) ≡ few_decimals (some (a, l))
unfolding few_digits
cents_few a l = go (leb (length l) 1) refl
  where
    go : (t : Bool) → leb (length l) 1 ≡ t → leb (1 + length l) 2 ≡ t
    go true e = le-leb (1 + length l) 2 (let h : length l ≤ 1 = leb-true (length l) 1 e in omega arith)
    go false e = lt-leb (1 + length l) 2 (let h : 1 < length l = leb-false (length l) 1 e in omega arith)

-- a zoom whose word and whether its decimals are few is known
zoom_is : (s : List ℕ) (at i next : ℕ) (z : Decimal) → locate decimal s at ≡ found z next → (word : ℕ) (few : Bool) → word ≡ zoom_word z → few ≡ few_decimals z.1
    → (c : Part) (o p : List ℕ) → ZoomPut next i word few c o p → PartIn decimal (take_zoom i) s at (Ok c) o p
unfolding zoom_part
zoom_is s at i next z e word few x y c o p k =
    part_as decimal (take_zoom i) s at (found z next) (Ok c) o p e
    (rw k.is (record {
      place = refl;
      zooms = (λ j. y j && among 1 9999 (x j)) ∙ ap (λ t. few_decimals z.1 && t) (capped (wholes z) (cents z.1));
      names = refl;
      amount = refl;
      holds = k.holds ∙ ap (set o i) x;
    }))

module _ (s : List ℕ) (at i : ℕ) (h : at ≤ length s) (o : List ℕ) where
  abbrev cents_after : Format (Option Figures)
  cents_after = optional (after 46 figures)

  decimal_is : locate decimal s at ≡ and_then (locate figures s at) λ a i. on_found {B = Decimal} (λ b. (a, b)) (locate cents_after s i)
  decimal_is = sequence_is figures (λ a. cents_after) figures_lawful s at h

  pub zoom_fails : (e : Refusal) → FiguresIn false s at (Err e) → (p : List ℕ) → PartIn decimal (take_zoom i) s at (Err e) o p
  zoom_fails e x p = part_fails figures (take_figures false) at decimal (take_zoom i) (λ a i. on_found {B = Decimal} (λ b. (a, b)) (locate cents_after s i)) s at e [] [] o p decimal_is x.part

  module _ (r : Part) (x : FiguresIn false s at (Ok r)) where
    whole : Taken figures (take_figures false) s at r [] []
    whole = taken figures (take_figures false) s at r [] [] figures_lawful h x.part

    after-whole : locate decimal s at ≡ on_found {B = Decimal} (λ b. (whole.value, b)) (locate cents_after s r.place)
    after-whole = decimal_is ∙ ap (λ l. and_then l λ a i. on_found {B = Decimal} (λ b. (a, b)) (locate cents_after s i)) whole.is

    whole_is : r.amount ≡ min 100 (onward whole.value.0 whole.value.1)
    whole_is = whole.took.amount ∙ whole_amount whole.value

    module _ (t : Bool) (e : t ≡ stands_at s r.place 46) where
      pub zoom-whole : t ≡ false → (c : Part) (p : List ℕ) → ZoomPut r.place i (r.amount * 100) true c o p → PartIn decimal (take_zoom i) s at (Ok c) o p
      zoom-whole n c p k =
          zoom_is s at i r.place (whole.value, none)
          (after-whole ∙ ap (on_found {B = Decimal} (λ b. (whole.value, b))) (maybe_absent 46 s r.place figures whole.got.room (sym e ∙ n)))
          (r.amount * 100) true (omega (arith, whole_is)) refl c o p k

      module _ (y : t ≡ true) where
        pointed : locate decimal s at ≡ on_found {B = Decimal} (λ b. (whole.value, b)) (on_found some (locate figures s (r.place + 1)))
        pointed = after-whole ∙ ap (on_found {B = Decimal} (λ b. (whole.value, b))) (maybe_there 46 s r.place figures (stands_so s r.place 46 (sym e ∙ y)))

        pointed-go : (l : Located Figures) → on_found {B = Decimal} (λ b. (whole.value, b)) (on_found some l) ≡ and_then {B = Decimal} l λ f j. found (whole.value, some f) j
        pointed-go (found f j) = refl
        pointed-go (wrong_at q) = refl
        pointed-go short_here = refl

        pub cents-fail : (n : Refusal) → FiguresIn true s (r.place + 1) (Err n) → (p : List ℕ) → PartIn decimal (take_zoom i) s at (Err n) o p
        cents-fail n u p =
            part_fails figures (take_figures true) (r.place + 1) decimal (take_zoom i) (λ f j. found (whole.value, some f) j) s at n [] [] o p
            (pointed ∙ pointed-go (locate figures s (r.place + 1))) u.part

        pub zoom-cents : (d : Part) → FiguresIn true s (r.place + 1) (Ok d) → (c : Part) (p : List ℕ) → ZoomPut d.place i (r.amount * 100 + d.amount) d.zooms c o p
            → PartIn decimal (take_zoom i) s at (Ok c) o p
        zoom-cents d u c p k =
            let room : r.place + 1 ≤ length s = stands_room s r.place 46 t e y in
            let v = taken figures (take_figures true) s (r.place + 1) d [] [] figures_lawful room u.part in
            let f = v.value in
            let amounts : d.amount ≡ cents (some f) = v.took.amount ∙ cents_amount f.0 f.1 in
            zoom_is s at i d.place (whole.value, some f)
            (pointed ∙ ap (λ l. on_found {B = Decimal} (λ b. (whole.value, b)) (on_found some l)) v.is)
            (r.amount * 100 + d.amount) d.zooms (λ j. whole_is j * 100 + amounts j) (v.took.zooms ∙ cents_few f.0 f.1) c o p k
