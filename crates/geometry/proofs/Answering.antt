-- What the entries answer, from what reading, measuring and writing promise.
use Prim.Native.Nat.{ℕ}
use mathlib.Core.Path.{◌≡◌, sym, ap, ◌∙◌}
use mathlib.Core.List.{List}
use lib.Dec.{lit<}
use lib.IntN.{ℤ}
use Rattle.std.specs.Prelude.{Result as Answer, Ok, Err}
use Rattle.charset.specs.declared.Charset.{Charset}
use Rattle.grammar.specs.declared.Head.{Head}
use Rattle.grammar.specs.declared.Symbols.{Symbols}
use Rattle.grammar.specs.Sign.{Meaning, sign_text}
use Rattle.token.specs.declared.refusal.Refusal.{Refusal}
use Rattle.token.specs.Refusal.{number_of, place_of}
use Rattle.token.specs.Result.{refusal, done, outcome, on_done, and_then, Written, as_written}
use Rattle.writer.proofs.Answers.{Answers, answers_refused}
use Rattle.writer.specs.Arrays.{upto, symbol_at, meaning_in}
use Rattle.reader.specs.Signs.{sign_of}
use Rattle.reader.specs.Inner.{head_of, ReadInto}
use Rattle.reader.proofs.Counts.{was_refused}
use Rattle.sign.proofs.Readings.{meant}
use Rattle.sign.proofs.Transcribing.{lies}
use Rattle.bounds.specs.declared.groups.Groups.{Groups}
use Rattle.bounds.specs.declared.centre.Doubled.{Doubled}
use Rattle.bounds.specs.Sizes.{measured}
use Rattle.bounds.specs.Centre.{doubled_of}
use Rattle.bounds.proofs.Halves.{half_exact}
use Rattle.moving.specs.Moves.{moved_sign, shifted_text, to_middle, restated, centred_by, centred_sign, centred_text}
use Rattle.moving.specs.Inner.{Coded}
use Rattle.moving.proofs.Signs.{coded_of}
use Rattle.geometry.specs.Geometry.{bounds_as, as_bounds, bounds_of, Exact}

-- a refusal has the centre 0
pub refused_exact : (e : Refusal) → Exact (as_bounds (Err e))
refused_exact e = record { x = half_exact 0 (lit< tt); y = half_exact 0 (lit< tt) }

module _ (set : Charset) (s : List ℕ) (r : Answer Head Refusal) (symbols : Symbols) (v : ReadInto set s r symbols) where
  -- a text that is refused
  module _ (e : Refusal) (q : r ≡ Err e) where
    unread : sign_of set s ≡ refusal (number_of e) (place_of e)
    unread = was_refused head_of (sign_of set s) r e v.is q

    pub boxes_unread : (sizes : List ℕ) → as_bounds (Err e) ≡ bounds_of set s sizes
    unfolding bounds_of
    boxes_unread sizes = rw unread

    pub shift_unread : (o : List ℕ) (dx dy : ℤ) → Answers o (shifted_text set s dx dy) (as_written (Err e)) o
    unfolding shifted_text
    shift_unread o dx dy = answers_refused o (ap (λ k. on_done (sign_text set) (and_then k (moved_sign dx dy))) unread)

    pub centred_unread : (o sizes : List ℕ) → Answers o (centred_text set s sizes) (as_written (Err e)) o
    unfolding centred_text
    centred_unread o sizes = answers_refused o (ap (λ k. on_done (sign_text set) (and_then k (centred_sign sizes))) unread)

  -- a text that is read
  module _ (h : Head) (q : r ≡ Ok h) where
    abbrev lying : Meaning
    lying = meaning_in h symbols

    was_read_as : sign_of set s ≡ done lying
    was_read_as = (meant set s r symbols v h q).says ∙ ap done (sym (lies set s r symbols v h q).same)

    -- valid but for the maximum, whatever that is
    pub coded : (right bottom : ℕ)
        → Coded (meaning_in (record { marker = h.marker; max_x = right; max_y = bottom; prefix_count = h.prefix_count; symbol_count = h.symbol_count }) symbols)
    coded right bottom = coded_of lying right bottom (lies set s r symbols v h q).valid

    pub shift_done : (o p : List ℕ) (dx dy a b : ℤ) (w : Written) → a ≡ dx → b ≡ dy → Answers o (on_done (sign_text set) (moved_sign a b lying)) w p
        → Answers o (shifted_text set s dx dy) w p
    unfolding shifted_text
    shift_done o p dx dy a b w ea eb k =
        let e : on_done (sign_text set) (moved_sign a b lying) ≡ on_done (sign_text set) (and_then (sign_of set s) (moved_sign dx dy)) =
        (λ i. on_done (sign_text set) (moved_sign (ea i) (eb i) lying)) ∙ ap (λ k. on_done (sign_text set) (and_then k (moved_sign dx dy))) (sym was_read_as) in
        rw (← e) k

    -- its symbols measured
    module _ (sizes : List ℕ) (m : Answer Groups Refusal) (is : outcome m ≡ measured sizes (upto (symbol_at symbols) h.symbol_count)) where
      boxes_as : bounds_as (outcome m) ≡ bounds_of set s sizes
      unfolding bounds_of
      boxes_as = rw was_read_as (ap bounds_as is)

      centred_as : on_done (sign_text set) (and_then (outcome m) (centred_by lying)) ≡ centred_text set s sizes
      unfolding centred_text centred_sign
      centred_as = rw was_read_as (ap (λ k. on_done (sign_text set) (and_then k (centred_by lying))) is)

      module _ (e : Refusal) (f : m ≡ Err e) where
        pub boxes_unmeasured : as_bounds (Err e) ≡ bounds_of set s sizes
        boxes_unmeasured = ap (λ k. bounds_as (outcome k)) (sym f) ∙ boxes_as

        pub centred_unmeasured : (o : List ℕ) → Answers o (centred_text set s sizes) (as_written (Err e)) o
        centred_unmeasured o = answers_refused o (sym centred_as ∙ ap (λ k. on_done (sign_text set) (and_then (outcome k) (centred_by lying))) f)

      module _ (g : Groups) (f : m ≡ Ok g) where
        pub boxes_done : bounds_as (done g) ≡ bounds_of set s sizes
        boxes_done = ap (λ k. bounds_as (outcome k)) (sym f) ∙ boxes_as

        pub centred_done : (o p : List ℕ) (d : Doubled) (a b : ℤ) (w : Written) → d ≡ doubled_of g → a ≡ to_middle d.x → b ≡ to_middle d.y
            → Answers o (on_done (sign_text set) (moved_sign a b (restated g lying))) w p → Answers o (centred_text set s sizes) w p
        centred_done o p d a b w ed ea eb k =
            let fa : a ≡ to_middle (doubled_of g).x = ea ∙ ap (λ k. to_middle k.x) ed in
            let fb : b ≡ to_middle (doubled_of g).y = eb ∙ ap (λ k. to_middle k.y) ed in
            let e : on_done (sign_text set) (moved_sign a b (restated g lying)) ≡ centred_text set s sizes =
            (λ i. on_done (sign_text set) (moved_sign (fa i) (fb i) (restated g lying)))
            ∙ ap (λ k. on_done (sign_text set) (and_then (outcome k) (centred_by lying))) (sym f)
            ∙ centred_as in
            rw (← e) k
