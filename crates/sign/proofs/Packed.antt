-- What the record of a sign holds: the sign itself, within the limits.
use Rattle.std.proofs.Common.{◌≡◌, ℕ, ◌<◌, ◌≤◌, List, map, length, get_or, sym, refl, ap, ◌∙◌, arith}
use lib.ListN.{get_or-map}
use Rattle.charset.specs.declared.Charset.{Charset}
use Rattle.grammar.specs.Sign.{Spatial, Meaning, Valid, sign_text}
use Rattle.grammar.proofs.SignLaws.{sign_laws}
use Rattle.token.specs.Result.{Result, refusal, done}
use Rattle.token.specs.Padded.{padded}
use Rattle.token.proofs.Checks.{Counted}
use Rattle.token.proofs.PaddedLists.{padded_at}
use Rattle.writer.specs.Arrays.{upto, at, symbol_at, meaning_in}
use Rattle.writer.proofs.Upto.{upto_is}
use Rattle.reader.specs.Inner.{symbols_of}
use Rattle.reader.specs.Signs.{sign_of}
use Rattle.reader.proofs.Limits.{sign_limited, sign_counted}
use Rattle.sign.specs.declared.Sign.{Sign}
use Rattle.sign.specs.Reading.{packed, reading_of, reading_in}

-- within the limits, and valid
pub record Within (m : Meaning) : Type 0 where
  pub prefix : length m.prefix ≤ 32
  pub symbols : length m.symbols ≤ 64
  pub valid : Valid m

pub sign_within : (set : Charset) (s : List ℕ) (m : Meaning) → sign_of set s ≡ done m → Within m
sign_within set s m e =
    let l = sign_limited set s m e in
    record { prefix = l.prefix; symbols = l.symbols; valid = ((sign_laws set).writes s m l.says).0 }

-- what was read is the text
pub sign_reads : (set : Charset) (s : List ℕ) (m : Meaning) → sign_of set s ≡ done m → s ≡ sign_text set m
sign_reads set s m e = ((sign_laws set).writes s m (sign_limited set s m e).says).1

-- a text that is not refused means something
pub reading_done : (set : Charset) (r : Result Meaning) → Counted r → (reading_of set r).number ≡ 0 → (m : Meaning) × (r ≡ done m)
unfolding reading_of
reading_done set (refusal number place) c z = absurd (let k = c number place refl in omega arith)
reading_done set (done m) c z = (m, refl)

pub read_means : (set : Charset) (text : List ℕ) → (reading_in set text).number ≡ 0 → (m : Meaning) × (sign_of set text ≡ done m)
read_means set text z = reading_done set (sign_of set text) (sign_counted set text) z

abbrev no_symbol : Spatial
no_symbol = record { code = 0; x = 0; y = 0 }

-- the value at a place of an array that holds a part of each symbol
part_at : (of : Spatial → ℕ) → of no_symbol ≡ 0 → (l : List Spatial) → length l ≤ 64 → (i : ℕ) → i < length l → at (padded 64 (map of l)) i ≡ of (get_or l i no_symbol)
part_at of z l n i h = padded_at 64 (map of l) i (omega arith) ∙ ap (get_or (map of l) i) (sym z) ∙ get_or-map of l i no_symbol

-- what a record means; its offsets say nothing of it
abbrev pub meaning_of : Sign → Meaning
meaning_of s =
    meaning_in (record { marker = s.marker; max_x = s.max_x; max_y = s.max_y; prefix_count = s.prefix_count; symbol_count = s.symbol_count })
    (record { prefix = s.prefix; codes = s.codes; xs = s.xs; ys = s.ys })

pub packed_means : (set : Charset) (m : Meaning) → Within m → meaning_of (packed set m) ≡ m
packed_means set m w =
    let s = symbols_of m in
    let prefix : upto (at s.prefix) (length m.prefix) ≡ m.prefix =
    upto_is (at s.prefix) m.prefix 0 λ i h. padded_at 32 m.prefix i (let k = w.prefix in omega arith) in
    let symbols : upto (symbol_at s) (length m.symbols) ≡ m.symbols =
    upto_is (symbol_at s) m.symbols no_symbol λ i h r.
    record {
      code = part_at (λ s. s.code) refl m.symbols w.symbols i h r;
      x = part_at (λ s. s.x) refl m.symbols w.symbols i h r;
      y = part_at (λ s. s.y) refl m.symbols w.symbols i h r;
    } in
    λ r. record { prefix = prefix r; marker = m.marker; x = m.x; y = m.y; symbols = symbols r }
