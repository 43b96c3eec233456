-- Document 02, Q-8: what is proved of the offsets of signs that were read, and when two signs are equal but for them.
use Rattle.std.specs.Prelude.{◌≡◌, ℕ, ◌↔◌, List, ◌++◌, take}
use Rattle.format.specs.Format.{Pairwise}
use Rattle.charset.specs.declared.Charset.{Charset}
use Rattle.charset.specs.declared.Charset.TheVariants.{Fsw, Swu}
use Rattle.grammar.specs.Sign.{Meaning}
use Rattle.grammar.specs.Offsets.{Rises, symbol_bytes}
use Rattle.token.specs.Result.{done}
use Rattle.symbol.specs.Codes.{code_read}
use Rattle.reader.specs.Signs.{sign_of}
use Rattle.sign.specs.declared.Sign.{Sign}
use Rattle.sign.specs.Reading.{reading_in}

-- the codes and the offsets of all symbols of a sign, those of the prefix before those of the signbox
abbrev pub codes_in : Sign → List ℕ
codes_in s = take s.prefix_count s.prefix ++ take s.symbol_count s.codes

abbrev pub offsets_in : Sign → List ℕ
offsets_in s = take s.prefix_count s.prefix_offsets ++ take s.symbol_count s.symbol_offsets

-- a sign with other offsets
abbrev pub with_offsets : List ℕ → List ℕ → Sign → Sign
with_offsets prefix symbols s = record {
  marker = s.marker;
  max_x = s.max_x;
  max_y = s.max_y;
  prefix_count = s.prefix_count;
  symbol_count = s.symbol_count;
  prefix = s.prefix;
  codes = s.codes;
  xs = s.xs;
  ys = s.ys;
  prefix_offsets = prefix;
  symbol_offsets = symbols;
}

-- equal in all but offsets: the one, given the offsets of the other, is the other
abbrev pub EqualButOffsets : Sign → Sign → Type 0
EqualButOffsets s t = with_offsets t.prefix_offsets t.symbol_offsets s ≡ t

-- two texts, each in its character set, read as signs equal in all but offsets
pub record ReadAlike (set : Charset) (text : List ℕ) (set₂ : Charset) (text₂ : List ℕ) : Type 0 where
  pub read : (reading_in set text).number ≡ 0
  pub read₂ : (reading_in set₂ text₂).number ≡ 0
  pub equal : EqualButOffsets (reading_in set text).sign (reading_in set₂ text₂).sign

pub record OffsetLaws : Type 0 where
  -- of a text that is read the offsets rise strictly,
  pub rise : (set : Charset) (text : List ℕ) → (reading_in set text).number ≡ 0 → Rises (offsets_in (reading_in set text).sign)
  -- and the bytes at each read back as that symbol, by the entry that turns keys or characters into codes
  pub back : (set : Charset) (text : List ℕ) → (reading_in set text).number ≡ 0
      → Pairwise (λ code offset. code_read set (symbol_bytes set text offset) ≡ record { number = 0; place = 0; code = code }) (codes_in (reading_in set text).sign) (offsets_in (reading_in set text).sign)
  -- signs of the two character sets are equal only where there is no symbol
  pub apart : (text text₂ : List ℕ) → (reading_in Fsw text).number ≡ 0 → (reading_in Swu text₂).number ≡ 0 → (reading_in Fsw text).sign ≡ (reading_in Swu text₂).sign
      → ((reading_in Fsw text).sign.prefix_count ≡ 0) × ((reading_in Fsw text).sign.symbol_count ≡ 0)
  -- texts read alike exactly where they have one meaning
  pub alike : (set : Charset) (text : List ℕ) (set₂ : Charset) (text₂ : List ℕ)
      → ReadAlike set text set₂ text₂ ↔ ((m : Meaning) × ((sign_of set text ≡ done m) × (sign_of set₂ text₂ ≡ done m)))
