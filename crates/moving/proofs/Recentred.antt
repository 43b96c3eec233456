-- Centring a centred sign gives the same text again.
use Prim.Native.Nat.{ℕ, ◌+◌, ◌/◌, ◌<◌}
use mathlib.Core.Path.{◌≡◌, refl, sym, ap, ◌∙◌}
use mathlib.Core.Bool.{Bool, true, false, ◌&&◌, and-eq-true_iff}
use mathlib.Core.List.{List, map, map-map}
use native.Mathlib.Omega.{arith}
use lib.Dec.{lit<}
use lib.IntN.{pos, sub_ℕ}
use lib.ListN.{length, get_or, length-map}
use Rattle.format.specs.Format.{choose, every}
use Rattle.charset.specs.declared.Charset.{Charset}
use Rattle.grammar.specs.Sign.{Spatial, Meaning, Valid, sign_text}
use Rattle.token.specs.Refusal.{number_outside}
use Rattle.token.specs.Result.{done, on_done, and_then}
use Rattle.token.proofs.Checks.{check_done, on_done_done, and_then_done}
use Rattle.token.proofs.Results.{same_done}
use Rattle.reader.specs.Signs.{sign_of}
use Rattle.sign.proofs.Packed.{Within, sign_within}
use Rattle.sign.proofs.Transcriptions.{written_reads}
use Rattle.bounds.specs.declared.groups.Groups.{Groups}
use Rattle.bounds.specs.Boxes.{groups_of}
use Rattle.bounds.specs.Sizes.{first_unsized, measured}
use Rattle.bounds.specs.Centre.{all, box_of, horizontal, vertical, serving, chosen_box, doubled_of}
use Rattle.bounds.proofs.Measuring.{Measures, measures, measured_fine}
use Rattle.moving.specs.Moves.{stays, xs_of, ys_of, moved_symbol, moved_meaning, moved_sign, to_middle, restated, centred_by, centred_sign, centred_text}
use Rattle.moving.proofs.Numbers.{stays_along}
use Rattle.moving.proofs.Signs.{all_first, coded_of, moved_valid}
use Rattle.moving.proofs.Unmoved.{unmoved}
use Rattle.moving.proofs.Along.{BoxAlong, serving_along}

-- a centre that was moved to 500 moves no more
middle : (d a b p q : ℕ) → p + d ≡ a + 500 → q + d ≡ b + 500 → d ≡ (a + b) / 2 → (p + q) / 2 ≡ 500
middle d a b p q h k e = omega arith

to_zero : (n : ℕ) → n / 2 ≡ 500 → to_middle n ≡ pos 0
to_zero n e = ap (sub_ℕ 500) e

choose_same : {A : Type 0} (t : Bool) (a : A) → choose t a a ≡ a
choose_same true a = refl
choose_same false a = refl

whole_box : (g : Groups) → chosen_box g all ≡ box_of g all
whole_box g = choose_same (get_or g.present all false) (box_of g all)

same_place : (d n p m : ℕ) → p + d ≡ n + 500 → m + d ≡ n + 500 → p ≡ m
same_place d n p m h k = omega arith

-- a sign that centring made
record Made (sizes : List ℕ) (new : Meaning) : Type 0 where
  pub within : Within new
  pub again : centred_sign sizes new ≡ done new

-- a sign that is measured, and its numbers that stay as it is centred
module _ (sizes : List ℕ) (m : Meaning) (g : Groups) where
  abbrev dx : ℕ
  dx = (doubled_of g).x / 2

  abbrev dy : ℕ
  dy = (doubled_of g).y / 2

  abbrev centred : Meaning
  centred = moved_meaning (sub_ℕ 500 dx) (sub_ℕ 500 dy) (restated g m)

  module _ (w : Within m) (is : Measures sizes m.symbols g) (h : every (stays (sub_ℕ 500 dx)) (xs_of (restated g m)) ≡ true) (k : every (stays (sub_ℕ 500 dy)) (ys_of (restated g m)) ≡ true) where
    abbrev after : Groups
    after = groups_of sizes centred.symbols

    abbrev move : Spatial → Spatial
    move = moved_symbol (sub_ℕ 500 dx) (sub_ℕ 500 dy)

    as_many : length centred.symbols ≡ length m.symbols
    as_many = length-map m.symbols move

    -- sizes go by codes alone
    remeasured : measured sizes centred.symbols ≡ done after
    remeasured =
        measured_fine sizes centred.symbols is.long (rw as_many is.some) (ap (first_unsized sizes 1) (map-map (λ s. s.code) move m.symbols) ∙ is.sized)

    valid : Valid centred
    valid = moved_valid (sub_ℕ 500 dx) (sub_ℕ 500 dy) (restated g m) (coded_of m (restated g m).x (restated g m).y w.valid) h k

    within : Within centred
    within = record { prefix = w.prefix; symbols = omega (arith, as_many, w.symbols); valid = valid }

    across : (stays (sub_ℕ 500 dx) (restated g m).x ≡ true) × (every (stays (sub_ℕ 500 dx)) (map (λ s. s.x) m.symbols) ≡ true)
    across = all_first (stays (sub_ℕ 500 dx)) (restated g m).x (map (λ s. s.x) m.symbols) h

    down : (stays (sub_ℕ 500 dy) (restated g m).y ≡ true) × (every (stays (sub_ℕ 500 dy)) (map (λ s. s.y) m.symbols) ≡ true)
    down = all_first (stays (sub_ℕ 500 dy)) (restated g m).y (map (λ s. s.y) m.symbols) k

    box-along : (i : ℕ) → i < 3 → BoxAlong 500 dx 500 dy (chosen_box g i) (chosen_box after i)
    box-along i z = rw is.groups at (serving_along 500 dx 500 dy sizes m.symbols is.some across.1 down.1 i z)

    zero-x : to_middle (doubled_of after).x ≡ pos 0
    zero-x =
        let a = chosen_box g (serving horizontal) in
        let b = chosen_box after (serving horizontal) in
        let along = box-along (serving horizontal) (lit< tt) in
        to_zero (doubled_of after).x (middle dx a.left a.right b.left b.right along.left along.right refl)

    zero-y : to_middle (doubled_of after).y ≡ pos 0
    zero-y =
        let a = chosen_box g (serving vertical) in
        let b = chosen_box after (serving vertical) in
        let along = box-along (serving vertical) (lit< tt) in
        to_zero (doubled_of after).y (middle dy a.top a.bottom b.top b.bottom along.top along.bottom refl)

    whole-along : BoxAlong 500 dx 500 dy (box_of g all) (box_of after all)
    whole-along = rw (whole_box g, whole_box after) at (box-along all (lit< tt))

    restated-same : restated after centred ≡ centred
    restated-same = λ i. record {
      prefix = m.prefix;
      marker = m.marker;
      x = same_place dx (restated g m).x (restated after centred).x centred.x whole-along.right (stays_along 500 dx (restated g m).x across.0) i;
      y = same_place dy (restated g m).y (restated after centred).y centred.y whole-along.bottom (stays_along 500 dy (restated g m).y down.0) i;
      symbols = centred.symbols;
    }

    recentred : centred_sign sizes centred ≡ done centred
    unfolding centred_sign
    recentred =
        ap (λ r. and_then r (centred_by centred)) remeasured
        ∙ (λ i. moved_sign (zero-x i) (zero-y i) (restated-same i))
        ∙ unmoved centred valid

    made : Made sizes centred
    made = record { within = within; again = recentred }

centred_made : (sizes : List ℕ) (m : Meaning) → Within m → (new : Meaning) → centred_sign sizes m ≡ done new → Made sizes new
unfolding centred_sign moved_sign
centred_made sizes m w new e =
    let d = and_then_done (measured sizes m.symbols) (centred_by m) e in
    let is = measures sizes m.symbols d.0 d.1.0 in
    let old = restated d.0 m in
    let dx = to_middle (doubled_of d.0).x in
    let dy = to_middle (doubled_of d.0).y in
    let c = check_done (every (stays dx) (xs_of old) && every (stays dy) (ys_of old)) number_outside 0 (done (moved_meaning dx dy old)) d.1.1 in
    let stay = (and-eq-true_iff (every (stays dx) (xs_of old)) (every (stays dy) (ys_of old))).0 c.0 in
    rw (same_done c.1) at (made sizes m d.0 w is stay.0 stay.1)

text_again : (set : Charset) (sizes other : List ℕ) (new : Meaning) → Made sizes new → sign_text set new ≡ other → centred_text set other sizes ≡ done other
unfolding centred_text
text_again set sizes other new made is =
    ap (λ t. on_done (sign_text set) (and_then (sign_of set t) (centred_sign sizes))) (sym is)
    ∙ ap (λ r. on_done (sign_text set) (and_then r (centred_sign sizes))) (written_reads set new made.within)
    ∙ ap (on_done (sign_text set)) made.again
    ∙ ap done is

pub again : (set : Charset) (sizes text other : List ℕ) → centred_text set text sizes ≡ done other → centred_text set other sizes ≡ done other
unfolding centred_text
again set sizes text other e =
    let c = on_done_done (sign_text set) (and_then (sign_of set text) (centred_sign sizes)) e in
    let r = and_then_done (sign_of set text) (centred_sign sizes) c.1.0 in
    text_again set sizes other c.0 (centred_made sizes r.0 (sign_within set text r.0 r.1.0) c.0 r.1.1) c.1.1
