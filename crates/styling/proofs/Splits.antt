-- A styled text that is read, and its two parts.
use Prim.Native.Nat.{ℕ}
use mathlib.Core.Path.{◌≡◌, ap, ◌∙◌}
use mathlib.Core.List.{List, ◌++◌}
use lib.Dec.{lit<}
use lib.ListN.{length, take, drop}
use lib.Seq.{take-append_seam, drop-append_seam}
use Rattle.format.specs.Places.{fine, reading}
use Rattle.charset.specs.declared.Charset.{Charset}
use Rattle.charset.specs.Tokens.{tokens}
use Rattle.grammar.specs.Sign.{Meaning, sign, sign_text}
use Rattle.grammar.proofs.SignLaws.{sign_fine}
use Rattle.token.specs.Refusal.{zoom_outside, colour_long, styles_long}
use Rattle.token.specs.Result.{done, on_done, check, and_then, of_outcome}
use Rattle.token.proofs.Checks.{check_done, on_done_done, and_then_done, Counted, done_counted, check_counted, and_then_counted, on_done_counted, outcome_counted}
use Rattle.token.proofs.Results.{outcome_done, same_done}
use Rattle.reader.specs.Signs.{within_limits}
use Rattle.reader.proofs.Limits.{within_inv, within_done, within_counted}
use Rattle.sign.proofs.Packed.{Within, reading_done}
use Rattle.stylinggrammar.specs.Styling.{Spelling, styling}
use Rattle.stylinggrammar.specs.Meaning.{zooms_good, names_good, styles_few, meaning}
use Rattle.stylinggrammar.specs.StylingLaws.{Accepted}
use Rattle.stylinggrammar.specs.Record.{record_of}
use Rattle.stylinggrammar.specs.Styled.{dash_at, read_styled}
use Rattle.stylinggrammar.proofs.Dashes.{dash_of}
use Rattle.stylinggrammar.proofs.Begun.{body}
use Rattle.stylinggrammar.proofs.StyledLaws.{styled_laws, sign_plain}
use Rattle.styling.specs.Reading.{styling_limits, styled_limits, styled_of, styled_reading}
use Rattle.styling.specs.Writing.{record_read}

-- THE LIMITS OF A STYLING

limits_inv : (t u : Spelling) → styling_limits t ≡ done u → Accepted t × (t ≡ u)
limits_inv t u e =
    let p = check_done (zooms_good t) zoom_outside 0 (check (names_good t) colour_long 0 (check (styles_few t) styles_long 0 (done t))) e in
    let q = check_done (names_good t) colour_long 0 (check (styles_few t) styles_long 0 (done t)) p.1 in
    let r = check_done (styles_few t) styles_long 0 (done t) q.1 in
    (record { zooms = p.0; names = q.0; few = r.0 }, same_done r.1)

pub limits_done : (t : Spelling) → Accepted t → styling_limits t ≡ done t
limits_done t a = rw (a.zooms, a.names, a.few)

limits_counted : (t : Spelling) → Counted (styling_limits t)
limits_counted t =
    check_counted (zooms_good t) zoom_outside 0 (check (names_good t) colour_long 0 (check (styles_few t) styles_long 0 (done t))) (lit< tt)
    (check_counted (names_good t) colour_long 0 (check (styles_few t) styles_long 0 (done t)) (lit< tt)
    (check_counted (styles_few t) styles_long 0 (done t) (lit< tt) (done_counted t)))

-- A STYLING STRING BY ITSELF

pub record String (text w : List ℕ) : Type 0 where
  pub spelling : Spelling
  pub reads : reading 1 styling text ≡ fine spelling
  pub accepted : Accepted spelling
  pub is : record_of (meaning spelling) ≡ w

pub string_of : (text w : List ℕ) → record_read text ≡ done w → String text w
unfolding record_read
string_of text w e =
    let d = on_done_done (λ t. record_of (meaning t)) (and_then (of_outcome (length text) (reading 1 styling text)) styling_limits) e in
    let a = and_then_done (of_outcome (length text) (reading 1 styling text)) styling_limits d.1.0 in
    let l = limits_inv a.0 d.0 a.1.1 in
    record {
      spelling = a.0;
      reads = outcome_done (length text) (reading 1 styling text) a.0 a.1.0;
      accepted = l.0;
      is = ap (λ t. record_of (meaning t)) l.1 ∙ d.1.1;
    }

pub string_reads : (text w : List ℕ) → String text w → record_read text ≡ done w
unfolding record_read
string_reads text w s =
    ap (λ o. on_done (λ t. record_of (meaning t)) (and_then (of_outcome (length text) o) styling_limits)) s.reads
    ∙ ap (on_done (λ t. record_of (meaning t))) (limits_done s.spelling s.accepted)
    ∙ ap done s.is

-- A STYLED TEXT

pub record Split (set : Charset) (text : List ℕ) (m : Meaning) (t : Spelling) : Type 0 where
  pub within : Within m
  pub valid : styling.Valid t
  pub accepted : Accepted t
  pub is : text ≡ sign_text set m ++ styling.write t

pub styled_split : (set : Charset) (text : List ℕ) (p : Meaning × Spelling) → styled_of set text ≡ done p → Split set text p.0 p.1
unfolding styled_of
styled_split set text p e =
    let a = and_then_done (of_outcome (length text) (read_styled set text)) styled_limits e in
    let m = a.0.0 in
    let t = a.0.1 in
    let b = and_then_done (styling_limits t) (λ u. on_done (λ k. (k, u)) (within_limits m)) a.1.1 in
    let c = on_done_done (λ k. (k, b.0)) (within_limits m) b.1.1 in
    let l = limits_inv t b.0 b.1.0 in
    let w = within_inv m c.0 c.1.0 in
    let same : (m, t) ≡ p = (λ i. (w.1.1 i, l.1 i)) ∙ c.1.1 in
    let f = ((styled_laws set).fines text m t).0 (outcome_done (length text) (read_styled set text) a.0 a.1.0) in
    rw same at (split-as m t (record { prefix = w.0; symbols = w.1.0; valid = f.0 }) f.1.0 l.0 f.1.1)
  where
    split-as : (m : Meaning) (t : Spelling) → Within m → styling.Valid t → Accepted t → text ≡ sign_text set m ++ styling.write t → Split set text m t
    split-as m t a b c d = record { within = a; valid = b; accepted = c; is = d }

pub split_styled : (set : Charset) (text : List ℕ) (m : Meaning) (t : Spelling) → Split set text m t → styled_of set text ≡ done (m, t)
unfolding styled_of
split_styled set text m t s =
    ap (λ o. and_then (of_outcome (length text) o) styled_limits) (((styled_laws set).fines text m t).1 (s.within.valid, (s.valid, s.is)))
    ∙ ap (λ r. and_then r λ u. on_done (λ k. (k, u)) (within_limits m)) (limits_done t s.accepted)
    ∙ ap (on_done (λ k. (k, t))) (within_done m s.within.prefix s.within.symbols)

pub styled_counted : (set : Charset) (text : List ℕ) → Counted (styled_of set text)
unfolding styled_of
styled_counted set text =
    and_then_counted (of_outcome (length text) (read_styled set text)) styled_limits (outcome_counted (length text) (read_styled set text)) λ p.
    and_then_counted (styling_limits p.1) (λ t. on_done (λ m. (m, t)) (within_limits p.0)) (limits_counted p.1) λ t.
    on_done_counted (λ m. (m, t)) (within_limits p.0) (within_counted p.0)

-- a styled text that is not refused says a sign and a styling
pub styled_means : (set : Charset) (text : List ℕ) → (styled_reading set text).number ≡ 0 → (p : Meaning × Spelling) × (styled_of set text ≡ done p)
styled_means set text z =
    let d = reading_done set (on_done (λ p. p.0) (styled_of set text)) (on_done_counted (λ p. p.0) (styled_of set text) (styled_counted set text)) z in
    let k = on_done_done (λ p. p.0) (styled_of set text) d.1 in
    (k.0, k.1.0)

-- where it is split
module _ (set : Charset) (text : List ℕ) (m : Meaning) (t : Spelling) (s : Split set text m t) where
  pub split_dash : dash_at text ≡ length (sign_text set m)
  split_dash =
      dash_of (tokens set).unit (sign set) (sign_fine set) (sign_plain set) text
      (record { says = m; valid = s.within.valid; after = body t; is = s.is })

  pub split_sign : take (dash_at text) text ≡ sign_text set m
  split_sign = (λ i. take (split_dash i) (s.is i)) ∙ take-append_seam (sign_text set m) (styling.write t)

  pub split_string : drop (dash_at text) text ≡ styling.write t
  split_string = (λ i. drop (split_dash i) (s.is i)) ∙ drop-append_seam (sign_text set m) (styling.write t)
