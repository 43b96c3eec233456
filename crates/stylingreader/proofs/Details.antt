-- Detail colours and the background: one law for each return of a function that reads them.
use Prim.Native.Nat.{ℕ, ◌+◌, ◌≤◌}
use mathlib.Core.List.{List}
use mathlib.Core.Path.{◌≡◌, refl, sym, ◌∙◌}
use mathlib.Core.Bool.{Bool, true, false}
use mathlib.Core.Option.{Option, none, some}
use lib.ListN.{length, set}
use Rattle.format.specs.Format.{Format, sequence}
use Rattle.format.specs.Located.{Located, found, wrong_at, short_here, locate, on_found}
use Rattle.format.proofs.Lawful.{Lawful}
use Rattle.charset.specs.Bytes.{byte, after}
use Rattle.std.specs.Prelude.{Result as Answer, Ok, Err}
use Rattle.token.specs.declared.refusal.Refusal.{Refusal}
use Rattle.token.specs.Token.{token_at}
use Rattle.stylinggrammar.specs.Styling.{before, colour, line_and_fill, detail}
use Rattle.stylinggrammar.proofs.Colours.{colour_lawful}
use Rattle.stylinggrammar.specs.Record.{detail_count}
use Rattle.stylingreader.specs.declared.part.Part.{Part}
use Rattle.stylingreader.specs.Parts.{Taking, PartIn, PartIs, both, joined_part, stands_at, passed_part, closed_part}
use Rattle.stylingreader.specs.Takings.{fill, with_fill, take_colour, take_fill, take_detail, take_details}
use Rattle.stylingreader.proofs.Marks.{stands_so}
use Rattle.stylingreader.proofs.Fixed.{maybe_there, maybe_absent}
use Rattle.stylingreader.proofs.Chains.{Taken, taken, part_as, first_fails, second_fails, joins, alike_part, after_fails, after_goes, byte_room, closed_fails, part_closed, part_beside}

module _ (s : List ℕ) (at base : ℕ) (o : List ℕ) (h : at ≤ length s) where
  -- THE FILL COLOUR
  module _ (t : Bool) (e : t ≡ stands_at s at 44) where
    pub fill_absent : t ≡ false → (r : Part) → r ≡ passed_part at 1 → PartIn fill (take_fill base) s at (Ok r) o o
    fill_absent f r q =
        part_as fill (take_fill base) s at (found none at) (Ok r) o o (maybe_absent 44 s at colour h (sym e ∙ f))
        (rw q (record { place = refl; zooms = refl; names = refl; amount = refl; holds = refl }))

    fill_is : t ≡ true → locate fill s at ≡ on_found some (locate colour s (at + 1))
    fill_is f = maybe_there 44 s at colour (stands_so s at 44 (sym e ∙ f))

    fails_go : (r : Refusal) (p q : List ℕ) (l : Located (List ℕ)) → PartIs (length s) (take_colour base) l (Err r) o p → PartIs (length s) (take_fill base) (on_found some l) (Err r) o q
    fails_go r p q (found c next) x = x
    fails_go r p q (wrong_at i) x = x
    fails_go r p q short_here x = x

    pub fill_fails : t ≡ true → (r : Refusal) (p q : List ℕ) → PartIn colour (take_colour base) s (at + 1) (Err r) o p → PartIn fill (take_fill base) s at (Err r) o q
    fill_fails f r p q x = part_as fill (take_fill base) s at (on_found some (locate colour s (at + 1))) (Err r) o q (fill_is f) (fails_go r p q (locate colour s (at + 1)) x.is)

    there_go : (r : Part) (p : List ℕ) (l : Located (List ℕ)) → PartIs (length s) (take_colour base) l (Ok r) o p
        → PartIs (length s) (take_fill base) (on_found some l) (Ok (record { zooms = r.zooms; place = r.place; names = r.names; amount = 2 })) o p
    there_go r p (found c next) x = record { place = x.place; zooms = x.zooms; names = x.names; amount = refl; holds = x.holds }
    there_go r p (wrong_at q) x = absurd (cc x)
    there_go r p short_here x = absurd (cc x)

    pub fill_there : t ≡ true → (r : Part) (p : List ℕ) → PartIn colour (take_colour base) s (at + 1) (Ok r) o p
        → PartIn fill (take_fill base) s at (Ok (record { zooms = r.zooms; place = r.place; names = r.names; amount = 2 })) o p
    fill_there f r p x =
        part_as fill (take_fill base) s at (on_found some (locate colour s (at + 1))) (Ok (record { zooms = r.zooms; place = r.place; names = r.names; amount = 2 })) o p
        (fill_is f) (there_go r p (locate colour s (at + 1)) x.is)

  -- LINE AND FILL
  counts : (c : List ℕ) (f : Option (List ℕ)) → with_fill f ≡ detail_count (some (c, f))
  counts c none = refl
  counts c (some f) = refl

  as_detail : (r : Answer Part Refusal) (p : List ℕ) → PartIn (sequence colour λ c. fill) (both (take_colour base) λ c. take_fill (base + 25)) s at r o p → PartIn line_and_fill (take_detail base) s at r o p
  as_detail r p =
      alike_part line_and_fill (both (take_colour base) λ c. take_fill (base + 25)) (take_detail base)
      (record { zooms = λ d. refl; names = λ d. refl; amount = λ d. counts d.0 d.1; put = λ d o. refl }) s at r o p

  pub line_fails : (e : Refusal) (p q : List ℕ) → PartIn colour (take_colour base) s at (Err e) o p → PartIn line_and_fill (take_detail base) s at (Err e) o q
  line_fails e p q x = first_fails colour (λ c. fill) colour_lawful (take_colour base) (λ c. take_fill (base + 25)) s at h e o p x (take_detail base) o q

  module _ (r : Part) (p : List ℕ) (x : PartIn colour (take_colour base) s at (Ok r) o p) where
    line : Taken colour (take_colour base) s at r o p
    line = taken colour (take_colour base) s at r o p colour_lawful h x

    pub line_room : r.place ≤ length s
    line_room = line.got.room

    pub line_unfilled : (e : Refusal) (q n : List ℕ) → PartIn fill (take_fill (base + 25)) s r.place (Err e) p q → PartIn line_and_fill (take_detail base) s at (Err e) o n
    line_unfilled e q n y = second_fails colour (λ c. fill) colour_lawful (take_colour base) (λ c. take_fill (base + 25)) s at h r o p line e q y (take_detail base) o n

    pub line_filled : (t c : Part) (q : List ℕ) → PartIn fill (take_fill (base + 25)) s r.place (Ok t) p q → c ≡ joined_part r t
        → PartIn line_and_fill (take_detail base) s at (Ok c) o q
    line_filled t c q y e = as_detail (Ok c) q (joins colour (λ c. fill) colour_lawful (take_colour base) (λ c. take_fill (base + 25)) s at h r o p line t c q y e)

-- BETWEEN UNDERSCORES
module _ {A : Type 0} (f : Format A) (l : Lawful 1 f) (k : Taking A) (s : List ℕ) (at : ℕ) (o p : List ℕ) where
  pub unopened : (e : Refusal) → token_at (byte 95) s at ≡ Err e → PartIn (after 95 (before 95 f)) k s at (Err e) o p
  unopened = after_fails 95 (before 95 f) k s at o p

  module _ (v : ℕ) (q : token_at (byte 95) s at ≡ Ok v) where
    opened : at + 1 ≤ length s
    opened = byte_room 95 s at v q

    pub inner_fails : (e : Refusal) → PartIn f k s (at + 1) (Err e) o p → PartIn (after 95 (before 95 f)) k s at (Err e) o p
    inner_fails e x = after_goes 95 (before 95 f) k s at o p v q (Err e) (closed_fails 95 f l k s (at + 1) opened o p e x)

    pub inner_closed : (r : Part) → PartIn f k s (at + 1) (Ok r) o p → (c : Answer Part Refusal) → c ≡ closed_part s r 95 → PartIn (after 95 (before 95 f)) k s at c o p
    inner_closed r x c e = after_goes 95 (before 95 f) k s at o p v q c (part_closed 95 f l k s (at + 1) opened o p r x c e)

-- the colours of all symbols, with how many they are
pub details_counted : (s : List ℕ) (at : ℕ) (r : Part) (o p m : List ℕ) → m ≡ set p 3 r.amount → PartIn detail (take_detail 30) s at (Ok r) o p → PartIn detail take_details s at (Ok r) o m
details_counted s at r o p m e =
    part_beside detail (take_detail 30) take_details s at r o p o m (λ d. refl) (λ d. refl) (λ d. refl) (λ d a k. e ∙ λ i. set (k i) 3 (a i))
