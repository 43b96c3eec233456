-- Symbol styles, one by one: one law for each return of a function that reads them.
use Prim.Native.Nat.{ℕ, ◌+◌, ◌-◌, ◌≤◌, ◌<◌, min}
use mathlib.Core.List.{List, [], ◌∷◌, ◌++◌}
use mathlib.Core.Path.{◌≡◌, refl, sym, ap, ◌∙◌}
use mathlib.Core.Bool.{Bool, true, false, ◌&&◌}
use lib.ListN.{length, set, length-append}
use native.Mathlib.Omega.{arith}
use lib.Dec.{ltb}
use borrow.Author.Tests.{ltb-false}
use Rattle.format.specs.Format.{Format, every}
use Rattle.format.specs.Located.{Located, found, wrong_at, short_here, locate}
use Rattle.format.proofs.Lawful.{Lawful}
use Rattle.format.proofs.Sequence.{sequence_lawful}
use Rattle.format.proofs.At.{Strays, here, later}
use Rattle.format.proofs.Loop.{Walk, strays, open_on, open_stop, open_end, open_bad, open_cut}
use Rattle.format.proofs.Lists.{every_snoc}
use Rattle.format.proofs.Open.{Open}
use Rattle.charset.specs.Bytes.{after}
use Rattle.charset.proofs.Units.{after_lawful}
use Rattle.std.specs.Prelude.{Ok, Err}
use Rattle.token.specs.declared.refusal.Refusal.{Refusal}
use Rattle.token.specs.declared.refusal.Refusal.TheVariants.{TextWrong, TextShort}
use Rattle.token.specs.Token.{told, token_at}
use Rattle.token.proofs.Told.{Told}
use Rattle.token.proofs.Digits.{digits_told}
use Rattle.stylinggrammar.specs.Styling.{two_digits, decimal}
use Rattle.stylinggrammar.proofs.Styling.{two_digits_delimited, detail_lawful, decimal_lawful, symbol_colours_open, symbol_zoom_open}
use Rattle.stylinggrammar.specs.Filling.{row_of, put_rows}
use Rattle.stylingreader.specs.declared.part.Part.{Part}
use Rattle.stylingreader.specs.Parts.{Taking, plain, PartIn, PartIs, both, joined_part, stands_at, passed_part}
use Rattle.stylingreader.specs.Takings.{take_number, kind, style, styles, take_styles}
use Rattle.stylingreader.proofs.Marks.{Stands, stands_so}
use Rattle.stylingreader.proofs.Fixed.{missing_at, after_there, after_missing, begun_there}
use Rattle.stylingreader.proofs.Chains.{Alike, Taken, taken, part_as, first_fails, second_fails, joins, alike_part, part_beside}

-- TWO DIGITS

two_digits_lawful : Lawful 1 two_digits
two_digits_lawful = two_digits_delimited.lawful

module _ (s : List ℕ) (at : ℕ) where
  pub number_told : (n : ℕ) → token_at two_digits s at ≡ Ok n → Told 2 two_digits s at n
  number_told = digits_told (10 ∷ []) 0 99 (omega arith) (omega arith, omega arith, omega arith) s at

  module _ (i more : ℕ) (o p : List ℕ) where
    pub number_read : (n : ℕ) → token_at two_digits s at ≡ Ok n → (r : Part) → r ≡ passed_part (at + 2) 0 → p ≡ set o i (more + n) → PartIn two_digits (take_number i more) s at (Ok r) o p
    number_read n q r y h =
        part_as two_digits (take_number i more) s at (found n (at + 2)) (Ok r) o p (number_told n q).is
        (rw y (record { place = refl; zooms = refl; names = refl; amount = refl; holds = h }))

    pub number_fails : (e : Refusal) → token_at two_digits s at ≡ Err e → PartIn two_digits (take_number i more) s at (Err e) o p
    unfolding token_at
    number_fails e q = record { is = go (locate two_digits s at) q }
      where
        go : (l : Located ℕ) → told (length s) l ≡ Err e → PartIs (length s) (take_number i more) l (Err e) o p
        go (found n next) q = absurd (cc q)
        go (wrong_at j) q = let z : e ≡ TextWrong j = cc in ap Err z
        go short_here q = let z : e ≡ TextShort (length s) = cc in ap Err z

-- ONE STYLE

-- the kind of a style and its symbol's number
abbrev take_kind : ℕ → ℕ → Taking ℕ
take_kind kind row = plain λ n o. set (set o row kind) (row + 1) n

kind_like : (zoomed : Bool) (row : ℕ) → Alike (λ p. p) (both (take_kind (kind zoomed).number row) λ n. (kind zoomed).taken row) ((kind zoomed).take row)
kind_like false row = record { zooms = λ d. refl; names = λ d. refl; amount = λ d. refl; put = λ d o. refl }
kind_like true row = record { zooms = λ d. refl; names = λ d. refl; amount = λ d. refl; put = λ d o. refl }

-- a style's number, and then what it says
module _ (zoomed : Bool) (row : ℕ) (s : List ℕ) (at : ℕ) (h : at ≤ length s) where
  pub style_fails : (e : Refusal) (m p : List ℕ) → PartIn two_digits (take_number (row + 1) 0) s at (Err e) m p → (o q : List ℕ) → PartIn (style zoomed) ((kind zoomed).take row) s at (Err e) o q
  style_fails e m p x o q =
      first_fails two_digits (λ n. (kind zoomed).says) two_digits_lawful (take_number (row + 1) 0) (λ n. (kind zoomed).taken row) s at h e m p x ((kind zoomed).take row) o q

  module _ (r : Part) (m p : List ℕ) (x : PartIn two_digits (take_number (row + 1) 0) s at (Ok r) m p) where
    number : Taken two_digits (take_number (row + 1) 0) s at r m p
    number = taken two_digits (take_number (row + 1) 0) s at r m p two_digits_lawful h x

    pub number_room : r.place ≤ length s
    number_room = number.got.room

    pub says_fails : (e : Refusal) (q : List ℕ) → PartIn (kind zoomed).says ((kind zoomed).taken row) s r.place (Err e) p q → (o n : List ℕ)
        → PartIn (style zoomed) ((kind zoomed).take row) s at (Err e) o n
    says_fails e q y o n =
        second_fails two_digits (λ n. (kind zoomed).says) two_digits_lawful (take_number (row + 1) 0) (λ n. (kind zoomed).taken row) s at h r m p number e q y ((kind zoomed).take row) o n

    with_kind : (k : ℕ) (o : List ℕ) → m ≡ set o row k → PartIn two_digits (take_kind k row) s at (Ok r) o p
    with_kind k o e =
        part_beside two_digits (take_number (row + 1) 0) (take_kind k row) s at r m p o p (λ n. refl) (λ n. refl) (λ n. refl)
        (λ n a q. q ∙ (λ j. set (e j) (row + 1) (0 + n)) ∙ ap (set (set o row k) (row + 1)) (omega arith)) x

    pub style_joins : (o : List ℕ) → m ≡ set o row (kind zoomed).number → (t c : Part) (q : List ℕ) → PartIn (kind zoomed).says ((kind zoomed).taken row) s r.place (Ok t) p q
        → c ≡ joined_part r t → PartIn (style zoomed) ((kind zoomed).take row) s at (Ok c) o q
    style_joins o e t c q y w =
        let k = (kind zoomed).number in
        alike_part (style zoomed) (both (take_kind k row) λ n. (kind zoomed).taken row) ((kind zoomed).take row) (kind_like zoomed row) s at (Ok c) o q
        (joins two_digits (λ n. (kind zoomed).says) two_digits_lawful (take_kind k row) (λ n. (kind zoomed).taken row) s at h r o p
        (taken two_digits (take_kind k row) s at r o p two_digits_lawful h (with_kind k o e)) t c q y w)

-- THE LOOP

abbrev one : (zoomed : Bool) → Format (ℕ × (kind zoomed).Says)
one zoomed = after (kind zoomed).letter (style zoomed)

one_open : (zoomed : Bool) → Open 1 (one zoomed)
one_open true = symbol_zoom_open
one_open false = symbol_colours_open

says_lawful : (zoomed : Bool) → Lawful 1 (kind zoomed).says
says_lawful true = after_lawful 44 decimal decimal_lawful
says_lawful false = detail_lawful

style_lawful : (zoomed : Bool) → Lawful 1 (style zoomed)
style_lawful zoomed = sequence_lawful 1 two_digits (λ n. (kind zoomed).says) two_digits_lawful λ n ok. says_lawful zoomed

same_zooms : (zoomed : Bool) (row : ℕ) (a : (ℕ × (kind zoomed).Says)) → ((kind zoomed).take row).zooms a ≡ ((kind zoomed).take 0).zooms a
same_zooms true row a = refl
same_zooms false row a = refl

same_names : (zoomed : Bool) (row : ℕ) (a : (ℕ × (kind zoomed).Says)) → ((kind zoomed).take row).names a ≡ ((kind zoomed).take 0).names a
same_names true row a = refl
same_names false row a = refl

rows_snoc : {A : Type 0} (put : ℕ → A → List ℕ → List ℕ) (k : ℕ) (l : List A) (a : A) (o : List ℕ) → put_rows put k (l ++ (a ∷ [])) o ≡ put (k + length l) a (put_rows put k l o)
rows_snoc put k [] a o = ap (λ j. put j a o) (omega arith)
rows_snoc put k (b ∷ l) a o = rows_snoc put (k + 1) l a (put k b o) ∙ ap (λ j. put j a (put_rows put (k + 1) l (put k b o))) (omega arith)

-- What the loop knows: these styles were read up to a part's place, and what is left leads to the same whole.
pub record RowsInv (zoomed : Bool) (s : List ℕ) (at from : ℕ) (r : Part) (o p : List ℕ) : Type 0 where
  pub read : List (ℕ × (kind zoomed).Says)
  pub walk : Walk (after (kind zoomed).letter (style zoomed)) s at r.place read
  pub count : r.amount ≡ min 65 (from + length read)
  pub good : r.zooms ≡ every ((kind zoomed).take 0).zooms read
  pub brief : r.names ≡ every ((kind zoomed).take 0).names read
  pub size : length p ≡ length o
  pub held : p ≡ put_rows (λ k. ((kind zoomed).take (row_of k)).put) from read o

module _ (zoomed : Bool) (s : List ℕ) (at from : ℕ) (r : Part) (o p : List ℕ) (v : RowsInv zoomed s at from r o p) where
  abbrev f : Format (ℕ × (kind zoomed).Says)
  f = one zoomed

  -- THE WAYS OUT
  rows_all : locate (styles zoomed) s at ≡ found v.read r.place → PartIn (styles zoomed) (take_styles zoomed from) s at (Ok r) o p
  rows_all e =
      part_as (styles zoomed) (take_styles zoomed from) s at (found v.read r.place) (Ok r) o p e
      (record { place = refl; zooms = v.good; names = v.brief; amount = v.count; holds = v.held })

  module _ (b : ℕ) (e : b ≡ (kind zoomed).letter) (t : Bool) (y : t ≡ stands_at s r.place b) where
    pub rows_stop : t ≡ false → PartIn (styles zoomed) (take_styles zoomed from) s at (Ok r) o p
    rows_stop n = go (ltb r.place (length s)) refl
      where
        away : locate f s r.place ≡ missing_at s r.place
        away = after_missing (kind zoomed).letter (style zoomed) s r.place (ap (stands_at s r.place) (sym e) ∙ sym y ∙ n)

        go : (t : Bool) → ltb r.place (length s) ≡ t → PartIn (styles zoomed) (take_styles zoomed from) s at (Ok r) o p
        go true q = rows_all (open_stop 1 f (one_open zoomed) s at r.place v.read v.walk (away ∙ rw q))
        go false q = rows_all (open_end 1 f (one_open zoomed) s at r.place v.read v.walk (ltb-false r.place (length s) q))

    module _ (z : t ≡ true) where
      begun : Stands s r.place (kind zoomed).letter
      begun = stands_so s r.place (kind zoomed).letter (ap (stands_at s r.place) (sym e) ∙ sym y ∙ z)

      style-is : locate f s r.place ≡ locate (style zoomed) s (r.place + 1)
      style-is = after_there (kind zoomed).letter (style zoomed) s r.place begun

      never_here : (j : ℕ) → locate f s r.place ≡ wrong_at j → j ≡ r.place → ⊥
      never_here j z k = go (strays 1 f (one_open zoomed) s r.place j z)
        where
          go : Strays f s r.place j → ⊥
          go (here a d) = begun_there (kind zoomed).letter (style zoomed) s r.place begun d
          go (later rest a b d) = omega arith

      module _ (row : ℕ) (q : List ℕ) where
        fails_go : (d : Refusal) (m : List ℕ) (l : Located (ℕ × (kind zoomed).Says)) → locate (style zoomed) s (r.place + 1) ≡ l → PartIs (length s) ((kind zoomed).take row) l (Err d) p q
            → PartIn (styles zoomed) (take_styles zoomed from) s at (Err d) o m
        fails_go d m (found a next) z u = absurd u
        fails_go d m (wrong_at j) z u =
            part_as (styles zoomed) (take_styles zoomed from) s at (wrong_at j) (Err d) o m
            (open_bad 1 f (one_open zoomed) s at r.place v.read v.walk j (style-is ∙ z) (never_here j (style-is ∙ z))) u
        fails_go d m short_here z u =
            part_as (styles zoomed) (take_styles zoomed from) s at short_here (Err d) o m (open_cut 1 f (one_open zoomed) s at r.place v.read v.walk begun.inside (style-is ∙ z)) u

        pub rows_fails : (d : Refusal) → PartIn (style zoomed) ((kind zoomed).take row) s (r.place + 1) (Err d) p q → (m : List ℕ) → PartIn (styles zoomed) (take_styles zoomed from) s at (Err d) o m
        rows_fails d x m = fails_go d m (locate (style zoomed) s (r.place + 1)) refl x.is

        -- THE WAY ON
        module _ (c : Part) (x : PartIn (style zoomed) ((kind zoomed).take row) s (r.place + 1) (Ok c) p q) where
          one_more : Taken (style zoomed) ((kind zoomed).take row) s (r.place + 1) c p q
          one_more = let i = begun.inside in taken (style zoomed) ((kind zoomed).take row) s (r.place + 1) c p q (style_lawful zoomed) (omega arith) x

          -- less is left
          rest_falls : length s - c.place < length s - r.place
          rest_falls = let g = one_more.got in let i = begun.inside in omega (arith, g.size, g.room)

          pub rows-fall : (b : Part) → b ≡ joined_part r c → length s - b.place < length s - r.place
          rows-fall b e = rw e rest_falls

          rows_more : row ≡ row_of r.amount → length q ≡ length p → (n : ℕ) → n ≡ min (r.amount + 1) 65
              → RowsInv zoomed s at from (record { zooms = r.zooms && c.zooms; place = c.place; names = r.names && c.names; amount = n }) o q
          rows_more w d n y =
              let a = one_more.value in
              let l = v.read in
              let k = one_more.took in
              let same : row_of r.amount ≡ row_of (from + length l) = omega (arith, v.count) in
              record {
                read = l ++ (a ∷ []);
                walk = open_on 1 f (one_open zoomed) s at r.place l v.walk a c.place (style-is ∙ one_more.is);
                count = omega (arith, v.count, length-append l (a ∷ []));
                good = (λ i. v.good i && (k.zooms ∙ same_zooms zoomed row a) i) ∙ sym (every_snoc ((kind zoomed).take 0).zooms l a);
                brief = (λ i. v.brief i && (k.names ∙ same_names zoomed row a) i) ∙ sym (every_snoc ((kind zoomed).take 0).names l a);
                size = d ∙ v.size;
                held =
                    k.holds ∙ (λ i. ((kind zoomed).take ((w ∙ same) i)).put a (v.held i))
                    ∙ sym (rows_snoc (λ k. ((kind zoomed).take (row_of k)).put) from l a o);
              }

          pub rows_on : row ≡ row_of r.amount → length q ≡ length p → (n : ℕ) → n ≡ min (r.amount + 1) 65 → (b : Part) → b ≡ joined_part r c
              → RowsInv zoomed s at from (record { zooms = b.zooms; place = b.place; names = b.names; amount = n }) o q
          rows_on w d n y b e = rw e (rows_more w d n y)
