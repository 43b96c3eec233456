-- A sign that was moved has as many symbols as before, and they stand where they stood.
use Prim.Native.Nat.{ℕ}
use mathlib.Core.Path.{◌≡◌, refl, sym, ap, ◌∙◌}
use mathlib.Core.Bool.{◌&&◌, and-eq-true_iff}
use mathlib.Core.List.{List}
use native.Mathlib.Omega.{arith}
use lib.IntN.{ℤ}
use lib.ListN.{length, length-map}
use Rattle.format.specs.Format.{every}
use Rattle.charset.specs.declared.Charset.{Charset}
use Rattle.grammar.specs.Sign.{Meaning, Valid, sign_text}
use Rattle.grammar.specs.Offsets.{prefix_offsets, symbol_offsets}
use Rattle.token.specs.Refusal.{number_outside}
use Rattle.token.specs.Result.{done, and_then, written}
use Rattle.token.specs.Padded.{padded}
use Rattle.token.proofs.Checks.{Counted, check_done, on_done_done, and_then_done, on_done_counted, and_then_counted}
use Rattle.token.proofs.Results.{same_done}
use Rattle.writer.proofs.Answers.{accepted}
use Rattle.reader.specs.Signs.{sign_of}
use Rattle.reader.proofs.Limits.{sign_counted}
use Rattle.sign.specs.Reading.{reading_of}
use Rattle.sign.proofs.Packed.{Within, sign_within}
use Rattle.sign.proofs.Transcriptions.{written_reads}
use Rattle.bounds.specs.Sizes.{measured}
use Rattle.bounds.specs.Centre.{doubled_of}
use Rattle.moving.specs.Moves.{stays, xs_of, ys_of, moved_symbol, moved_meaning, moved_sign, shifted_text, to_middle, restated, centred_by, centred_sign, centred_text}
use Rattle.moving.specs.MovingLaws.{SameOffsets, shifted_in, centred_in}
use Rattle.moving.proofs.Signs.{coded_of, moved_valid}
use Rattle.moving.proofs.Repeated.{moved_counted, counted}

-- within the limits, with as many symbols
record Kept (m new : Meaning) : Type 0 where
  pub within : Within new
  pub prefix : length new.prefix ≡ length m.prefix
  pub symbols : length new.symbols ≡ length m.symbols

-- moved from m, or from m with another maximum
moved_kept : (dx dy : ℤ) (m : Meaning) (x y : ℕ) (new : Meaning) → Within m
    → moved_sign dx dy (record { prefix = m.prefix; marker = m.marker; x = x; y = y; symbols = m.symbols }) ≡ done new → Kept m new
unfolding moved_sign
moved_kept dx dy m x y new w e =
    let old : Meaning = record { prefix = m.prefix; marker = m.marker; x = x; y = y; symbols = m.symbols } in
    let c = check_done (every (stays dx) (xs_of old) && every (stays dy) (ys_of old)) number_outside 0 (done (moved_meaning dx dy old)) e in
    let stay = (and-eq-true_iff (every (stays dx) (xs_of old)) (every (stays dy) (ys_of old))).0 c.0 in
    let as_many : length (moved_meaning dx dy old).symbols ≡ length m.symbols = length-map m.symbols (moved_symbol dx dy) in
    let valid : Valid (moved_meaning dx dy old) = moved_valid dx dy old (coded_of m x y w.valid) stay.0 stay.1 in
    let within : Within (moved_meaning dx dy old) = record { prefix = w.prefix; symbols = omega (arith, as_many, w.symbols); valid = valid } in
    let kept : Kept m (moved_meaning dx dy old) = record { within = within; prefix = refl; symbols = as_many } in
    rw (same_done c.1) at kept

kept_offsets : (set : Charset) (text other : List ℕ) (m new : Meaning) → sign_of set text ≡ done m → Kept m new → sign_text set new ≡ other → SameOffsets set text other
unfolding reading_of
kept_offsets set text other m new e k is =
    let f : sign_of set other ≡ done new = ap (sign_of set) (sym is) ∙ written_reads set new k.within in
    record {
      read = rw f refl;
      prefix = rw (e, f) (ap (λ p. padded 32 (prefix_offsets set p)) k.prefix);
      symbols = rw (e, f) (λ i. padded 64 (symbol_offsets set (k.prefix i) (k.symbols i)));
    }

shift_counted : (set : Charset) (text : List ℕ) (dx dy : ℤ) → Counted (shifted_text set text dx dy)
unfolding shifted_text
shift_counted set text dx dy =
    on_done_counted (sign_text set) (and_then (sign_of set text) (moved_sign dx dy))
    (and_then_counted (sign_of set text) (moved_sign dx dy) (sign_counted set text) (moved_counted dx dy))

shift_offsets : (set : Charset) (text other : List ℕ) (dx dy : ℤ) → shifted_text set text dx dy ≡ done other → SameOffsets set text other
unfolding shifted_text
shift_offsets set text other dx dy e =
    let c = on_done_done (sign_text set) (and_then (sign_of set text) (moved_sign dx dy)) e in
    let r = and_then_done (sign_of set text) (moved_sign dx dy) c.1.0 in
    let m = r.0 in
    kept_offsets set text other m c.0 r.1.0 (moved_kept dx dy m m.x m.y c.0 (sign_within set text m r.1.0) r.1.1) c.1.1

centred_offsets : (set : Charset) (sizes text other : List ℕ) → centred_text set text sizes ≡ done other → SameOffsets set text other
unfolding centred_text centred_sign
centred_offsets set sizes text other e =
    let c = on_done_done (sign_text set) (and_then (sign_of set text) (centred_sign sizes)) e in
    let r = and_then_done (sign_of set text) (centred_sign sizes) c.1.0 in
    let m = r.0 in
    let d = and_then_done (measured sizes m.symbols) (centred_by m) r.1.1 in
    let g = d.0 in
    kept_offsets set text other m c.0 r.1.0
    (moved_kept (to_middle (doubled_of g).x) (to_middle (doubled_of g).y) m (restated g m).x (restated g m).y c.0 (sign_within set text m r.1.0) d.1.1)
    c.1.1

pub shifted : (set : Charset) (text out : List ℕ) (dx dy : ℤ) → (written out (shifted_text set text dx dy)).number ≡ 0 → SameOffsets set text (shifted_in set text dx dy out)
shifted set text out dx dy h =
    let a = accepted out (shifted_text set text dx dy) (shift_counted set text dx dy) h in
    rw a.front (shift_offsets set text a.text dx dy a.is)

pub centred : (set : Charset) (sizes text out : List ℕ) → (written out (centred_text set text sizes)).number ≡ 0 → SameOffsets set text (centred_in set text sizes out)
centred set sizes text out h =
    let a = accepted out (centred_text set text sizes) (counted set sizes text) h in
    rw a.front (centred_offsets set sizes text a.text a.is)
