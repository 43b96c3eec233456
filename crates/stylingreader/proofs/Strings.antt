-- The whole styling string: its parts one after the other, and one law for each return of the function that reads it.
use Prim.Native.Nat.{ℕ, ◌+◌, ◌≤◌, ◌<◌, min}
use mathlib.Core.List.{List, map}
use mathlib.Core.Path.{◌≡◌, refl, sym, ap, ◌∙◌}
use mathlib.Core.Bool.{Bool, true, false}
use mathlib.Core.Option.{Option, none, some}
use lib.Dec.{leb}
use lib.ListN.{length, length-append, length-map}
use native.Mathlib.Omega.{arith}
use borrow.Author.Tests.{eq-eqb, ne_eqb, le-ltb, le-leb, lt-leb, leb-true, leb-false}
use Rattle.format.specs.Format.{Format, optional, mapped}
use Rattle.format.specs.Located.{Located, found, wrong_at, short_here, locate, ended}
use Rattle.format.proofs.Lawful.{Lawful}
use Rattle.format.proofs.Parts.{optional_lawful}
use Rattle.charset.specs.Bytes.{byte, after}
use Rattle.charset.proofs.Units.{byte_delimited, after_lawful}
use Rattle.std.specs.Prelude.{Result as Answer, Ok, Err}
use Rattle.token.specs.declared.refusal.Refusal.{Refusal}
use Rattle.token.specs.declared.refusal.Refusal.TheVariants.{TextWrong, TextShort}
use Rattle.std.specs.Result.{IsErrAnd}
use Rattle.token.specs.Token.{token_at}
use Rattle.token.proofs.Handed.{handed}
use Rattle.token.specs.Result.{refusal, done, outcome, on_done, of_outcome}
use Rattle.token.proofs.Checks.{refusal_done}
use Rattle.token.proofs.Results.{same_done}
use Rattle.stylinggrammar.specs.Styling.{background, detail, decimal, two_digits, from_symbols, from_zoom, from_detail, from_background, from_padding, parts, Spelling, to_spelling, of_spelling, styling, Symbols}
use Rattle.stylinggrammar.specs.Meaning.{if_any, zooms_good, names_good, styles_few, styles_of, colour_style, zoom_style}
use Rattle.stylinggrammar.proofs.Styling.{two_digits_delimited, background_lawful, detail_lawful, decimal_lawful, styling_lawful}
use Rattle.stylinggrammar.specs.Filling.{put_styling}
use Rattle.stylingreader.specs.declared.part.Part.{Part}
use Rattle.stylingreader.specs.declared.reading.Found.{Found}
use Rattle.stylingreader.specs.Parts.{PartIn, PartIs, stands_at, passed_part, joined_part, perhaps, amount_or}
use Rattle.stylingreader.specs.Takings.{maybe_colorize, maybe_padding, maybe_background, maybe_detail, maybe_zoom, take_colour, take_number, take_zoom, take_colorize, take_details, take_from_symbols, take_from_zoom, take_from_detail, take_from_background, take_from_padding, take_parts, take_symbols, take_spelling}
use Rattle.stylingreader.specs.Reading.{styling_from, found_of, StylingIn}
use Rattle.stylingreader.proofs.Marks.{stands_so}
use Rattle.stylingreader.proofs.Fixed.{maybe_byte, no_byte}
use Rattle.stylingreader.proofs.Chains.{Alike, Taken, taken, part_as, mapped_part, part_stops, part_room, part_stops_next, part_goes_on, after_fails, after_goes}

-- THE PARTS

pub colorize_lawful : Lawful 1 maybe_colorize
colorize_lawful = optional_lawful 1 (byte 67) (byte_delimited 67).lawful

maybe_lawful : {A : Type 0} (b : ℕ) (f : Format A) → Lawful 1 f → Lawful 1 (optional (after b f))
maybe_lawful b f l = optional_lawful 1 (after b f) (after_lawful b f l)

pub padding_lawful : Lawful 1 maybe_padding
padding_lawful = maybe_lawful 80 two_digits two_digits_delimited.lawful

pub maybe_background_lawful : Lawful 1 maybe_background
maybe_background_lawful = maybe_lawful 71 background background_lawful

pub maybe_detail_lawful : Lawful 1 maybe_detail
maybe_detail_lawful = maybe_lawful 68 detail detail_lawful

pub maybe_zoom_lawful : Lawful 1 maybe_zoom
maybe_zoom_lawful = maybe_lawful 90 decimal decimal_lawful

module _ (s : List ℕ) (at : ℕ) (r : Part) (o p : List ℕ) (t : Bool) (e : t ≡ stands_at s at 67) where
  pub colorize_absent : at ≤ length s → t ≡ false → r ≡ passed_part at 0 → p ≡ o → PartIn maybe_colorize take_colorize s at (Ok r) o p
  colorize_absent h n q c =
      part_as maybe_colorize take_colorize s at (found none at) (Ok r) o p (no_byte 67 s at h (sym e ∙ n))
      (rw q (record { place = refl; zooms = refl; names = refl; amount = refl; holds = c }))

  pub colorize_there : t ≡ true → r ≡ passed_part (at + 1) 0 → p ≡ take_colorize.put (some 67) o → PartIn maybe_colorize take_colorize s at (Ok r) o p
  colorize_there y q c =
      part_as maybe_colorize take_colorize s at (found (some 67) (at + 1)) (Ok r) o p (maybe_byte 67 s at (stands_so s at 67 (sym e ∙ y)))
      (rw q (record { place = refl; zooms = refl; names = refl; amount = refl; holds = c }))

-- ALL PARTS: where one fails all fail, and where all are read, so are they one after the other
module _ (s : List ℕ) (at : ℕ) (h : at ≤ length s) (o : List ℕ) where
  abbrev All : Answer Part Refusal → List ℕ → Type 0
  All r q = PartIn parts take_parts s at r o q

  module _ (a : Part) (u : List ℕ) (x : PartIn maybe_colorize take_colorize s at (Ok a) o u) where
    pub padding_room : a.place ≤ length s
    padding_room = part_room maybe_colorize from_padding colorize_lawful take_colorize take_from_padding s at h a o u x

    after_colorize : (e : Refusal) (q : List ℕ) → PartIn from_padding take_from_padding s a.place (Err e) u q → All (Err e) q
    after_colorize = part_stops_next maybe_colorize from_padding colorize_lawful take_colorize take_from_padding s at h a o u x

    pub padding_fails : (e : Refusal) (q : List ℕ) → PartIn maybe_padding (perhaps (take_number 1 1)) s a.place (Err e) u q → All (Err e) q
    padding_fails e q y = after_colorize e q (part_stops maybe_padding from_background padding_lawful (perhaps (take_number 1 1)) take_from_background s a.place padding_room e u q q y)

    module _ (b : Part) (v : List ℕ) (y : PartIn maybe_padding (perhaps (take_number 1 1)) s a.place (Ok b) u v) where
      pub background_room : b.place ≤ length s
      background_room = part_room maybe_padding from_background padding_lawful (perhaps (take_number 1 1)) take_from_background s a.place padding_room b u v y

      after_padding : (e : Refusal) (q : List ℕ) → PartIn from_background take_from_background s b.place (Err e) v q → All (Err e) q
      after_padding e q z = after_colorize e q (part_stops_next maybe_padding from_background padding_lawful (perhaps (take_number 1 1)) take_from_background s a.place padding_room b u v y e q z)

      pub background_fails : (e : Refusal) (q : List ℕ) → PartIn maybe_background (perhaps (take_colour 5)) s b.place (Err e) v q → All (Err e) q
      background_fails e q z = after_padding e q (part_stops maybe_background from_detail maybe_background_lawful (perhaps (take_colour 5)) take_from_detail s b.place background_room e v q q z)

      module _ (g : Part) (w : List ℕ) (z : PartIn maybe_background (perhaps (take_colour 5)) s b.place (Ok g) v w) where
        pub detail_room : g.place ≤ length s
        detail_room = part_room maybe_background from_detail maybe_background_lawful (perhaps (take_colour 5)) take_from_detail s b.place background_room g v w z

        after_background : (e : Refusal) (q : List ℕ) → PartIn from_detail take_from_detail s g.place (Err e) w q → All (Err e) q
        after_background e q k =
            after_padding e q (part_stops_next maybe_background from_detail maybe_background_lawful (perhaps (take_colour 5)) take_from_detail s b.place background_room g v w z e q k)

        pub detail_fails : (e : Refusal) (q : List ℕ) → PartIn maybe_detail (perhaps take_details) s g.place (Err e) w q → All (Err e) q
        detail_fails e q k = after_background e q (part_stops maybe_detail from_zoom maybe_detail_lawful (perhaps take_details) take_from_zoom s g.place detail_room e w q q k)

        module _ (d : Part) (m : List ℕ) (k : PartIn maybe_detail (perhaps take_details) s g.place (Ok d) w m) where
          pub zoom_room : d.place ≤ length s
          zoom_room = part_room maybe_detail from_zoom maybe_detail_lawful (perhaps take_details) take_from_zoom s g.place detail_room d w m k

          after_detail : (e : Refusal) (q : List ℕ) → PartIn from_zoom take_from_zoom s d.place (Err e) m q → All (Err e) q
          after_detail e q l =
              after_background e q (part_stops_next maybe_detail from_zoom maybe_detail_lawful (perhaps take_details) take_from_zoom s g.place detail_room d w m k e q l)

          pub zoom_fails : (e : Refusal) (q : List ℕ) → PartIn maybe_zoom (perhaps (take_zoom 2)) s d.place (Err e) m q → All (Err e) q
          zoom_fails e q l = after_detail e q (part_stops maybe_zoom from_symbols maybe_zoom_lawful (perhaps (take_zoom 2)) take_from_symbols s d.place zoom_room e m q q l)

          module _ (f : Part) (n : List ℕ) (l : PartIn maybe_zoom (perhaps (take_zoom 2)) s d.place (Ok f) m n) where
            pub symbols_room : f.place ≤ length s
            symbols_room = part_room maybe_zoom from_symbols maybe_zoom_lawful (perhaps (take_zoom 2)) take_from_symbols s d.place zoom_room f m n l

            pub symbols_fail : (e : Refusal) (q : List ℕ) → PartIn from_symbols take_from_symbols s f.place (Err e) n q → All (Err e) q
            symbols_fail e q i =
                after_detail e q (part_stops_next maybe_zoom from_symbols maybe_zoom_lawful (perhaps (take_zoom 2)) take_from_symbols s d.place zoom_room f m n l e q i)

            pub parts_read : (t : Part) (q : List ℕ) → PartIn from_symbols take_from_symbols s f.place (Ok t) n q
                → (c1 c2 c3 c4 c5 : Part) → c1 ≡ joined_part f t → c2 ≡ joined_part d c1 → c3 ≡ joined_part g c2 → c4 ≡ joined_part b c3 → c5 ≡ joined_part a c4 → All (Ok c5) q
            parts_read t q i c1 c2 c3 c4 c5 e1 e2 e3 e4 e5 =
                part_goes_on maybe_colorize from_padding colorize_lawful take_colorize take_from_padding s at h a o u x c4 c5 q
                (part_goes_on maybe_padding from_background padding_lawful (perhaps (take_number 1 1)) take_from_background s a.place padding_room b u v y c3 c4 q
                (part_goes_on maybe_background from_detail maybe_background_lawful (perhaps (take_colour 5)) take_from_detail s b.place background_room g v w z c2 c3 q
                (part_goes_on maybe_detail from_zoom maybe_detail_lawful (perhaps take_details) take_from_zoom s g.place detail_room d w m k c1 c2 q
                (part_goes_on maybe_zoom from_symbols maybe_zoom_lawful (perhaps (take_zoom 2)) take_from_symbols s d.place zoom_room f m n l t c1 q i e1) e2) e3) e4) e5

-- THE DASH AND THE PARTS

any_true : {A : Type 0} (v : Option A) → if_any (λ a. true) v ≡ true
any_true none = refl
any_true (some a) = refl

spelled : Alike to_spelling take_parts take_spelling
unfolding zooms_good names_good put_styling
spelled = record {
  zooms = λ p. rw (any_true p.1.0, any_true p.1.1.0, any_true p.1.1.1.0);
  names = λ p. rw (any_true p.1.0, any_true p.1.1.1.1.0);
  amount = λ p. refl;
  put = λ p o. refl;
}

abbrev spelling : Format Spelling
spelling = mapped parts to_spelling of_spelling (λ t. parts.Valid (of_spelling t))

module _ (s : List ℕ) (at : ℕ) (o p : List ℕ) where
  pub dash_missing : (e : Refusal) → token_at (byte 45) s at ≡ Err e → PartIn styling take_spelling s at (Err e) o p
  dash_missing = after_fails 45 spelling take_spelling s at o p

  pub dash_there : (v : ℕ) → token_at (byte 45) s at ≡ Ok v → (r : Answer Part Refusal) → PartIn parts take_parts s (at + 1) r o p → PartIn styling take_spelling s at r o p
  dash_there v e r x =
      after_goes 45 spelling take_spelling s at o p v e r
      (mapped_part parts to_spelling of_spelling (λ t. parts.Valid (of_spelling t)) take_parts take_spelling spelled s (at + 1) r o p x)

-- UP TO THE END OF THE TEXT

few_go : (n : ℕ) (t : Bool) → leb n 64 ≡ t → leb (min 65 n) 64 ≡ t
few_go n true e = let h : n ≤ 64 = leb-true n 64 e in le-leb (min 65 n) 64 (omega arith)
few_go n false e = let h : 64 < n = leb-false n 64 e in lt-leb (min 65 n) 64 (omega arith)

few_is : (v : Option Symbols) → leb (amount_or 0 take_symbols.amount v) 64 ≡ leb (length (styles_of v)) 64
few_is none = refl
few_is (some l) =
    let n : length (styles_of (some l)) ≡ length l.0 + length l.1 =
    length-append (map colour_style l.0) (map zoom_style l.1) ∙ λ i. length-map l.0 colour_style i + length-map l.1 zoom_style i in
    few_go (length l.0 + length l.1) (leb (length l.0 + length l.1) 64) refl ∙ ap (λ n. leb n 64) (sym n)

module _ (s : List ℕ) (at : ℕ) (o p : List ℕ) where
  come_to : (l : Located Spelling) → locate styling s at ≡ l → styling_from s at ≡ of_outcome (length s) (ended 1 (length s) l)
  unfolding styling_from
  come_to l e = ap (λ l. of_outcome (length s) (ended 1 (length s) l)) e

  refused_so : (n q : ℕ) → styling_from s at ≡ refusal n q → (c : Answer Found Refusal) → outcome c ≡ refusal n q → StylingIn s at c o p
  refused_so n q e c y = record { is = y ∙ ap (on_done found_of) (sym e); puts = λ t k. refusal_done n q (sym e ∙ k) }

  fails_go : (c : Refusal) (l : Located Spelling) → locate styling s at ≡ l → PartIs (length s) take_spelling l (Err c) o p → StylingIn s at (Err c) o p
  fails_go c (found t next) e x = absurd x
  fails_go c (wrong_at q) e x = refused_so 1 q (come_to (wrong_at q) e) (Err c) (let z : c ≡ TextWrong q = cc in λ i. outcome {A = Found} (Err (z i)))
  fails_go c short_here e x = refused_so 2 (length s) (come_to short_here e) (Err c) (let z : c ≡ TextShort (length s) = cc in λ i. outcome {A = Found} (Err (z i)))

  pub styling_fails : (r : Answer Found Refusal) (c : Refusal) → IsErrAnd r (λ d. d ≡ c) → PartIn styling take_spelling s at (Err c) o p → StylingIn s at r o p
  styling_fails r c h x = let q : r ≡ Err c = handed r c h in rw q (fails_go c (locate styling s at) refl x.is)

  module _ (r : Part) (x : PartIn styling take_spelling s at (Ok r) o p) (h : at ≤ length s) where
    read : Taken styling take_spelling s at r o p
    read = taken styling take_spelling s at r o p styling_lawful h x

    pub styling-past : r.place < length s → StylingIn s at (Err (TextWrong r.place)) o p
    styling-past k =
        refused_so 1 r.place
        (come_to (found read.value r.place) read.is ∙ rw (ne_eqb r.place (length s) (λ e. omega arith), le-ltb (length s) (r.place + 1) (omega arith))) (Err (TextWrong r.place)) refl

    pub styling-done : length s ≤ r.place → StylingIn s at (Ok (record { zooms = r.zooms; names = r.names; few = leb r.amount 64 })) o p
    unfolding styles_few
    styling-done k =
        let t = read.value in
        let w = read.took in
        let room = read.got.room in
        let e : styling_from s at ≡ done t = come_to (found t r.place) read.is ∙ rw (eq-eqb r.place (length s) (omega arith)) in
        let few : leb r.amount 64 ≡ styles_few t = ap (λ n. leb n 64) w.amount ∙ few_is t.symbols in
        record {
          is = (λ i. done (record { zooms = w.zooms i; names = w.names i; few = few i })) ∙ ap (on_done found_of) (sym e);
          puts = λ u q. w.holds ∙ ap (λ t. put_styling t o) (same_done (sym e ∙ q));
        }
