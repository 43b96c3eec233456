-- What is proved of the grammar of a sign, in both character sets.
use Rattle.std.specs.Prelude.{ℕ, ◌≤◌, ◌≡◌, List, ◌⊎◌, ◌↔◌, length}
use Prim.Native.Char.{code}
use Rattle.format.specs.Format.{optional, many}
use Rattle.format.specs.Places.{Outcome, fine, Means}
use Rattle.format.specs.Numbers.{Here, After, ByNumbers}
use Rattle.charset.specs.declared.Charset.{Charset}
use Rattle.charset.specs.declared.Charset.TheVariants.{Fsw, Swu}
use Rattle.charset.specs.Bytes.{byte}
use Rattle.charset.specs.Tokens.{fsw_number, fsw, last_writing}
use Rattle.grammar.specs.Sign.{Meaning, Valid, prefix, lead, spatial, sign, sign_text, read_sign}

-- Where coordinate numbers stand in FSW, by what is written before them: the first of a coordinate at its start, the second
-- after the first and an x; in a sign, after the marker of its signbox and after the key of each signbox symbol.
abbrev pub PointNumber : List ℕ → Type 0
PointNumber x = Here x ⊎ After fsw.number (After (byte (code "x")) Here) x

abbrev pub BoxNumber : List ℕ → Type 0
BoxNumber x = After (fsw.marker 1 4) PointNumber x ⊎ After (lead fsw) (After (many (spatial fsw)) (After (fsw.symbol last_writing) PointNumber)) x

abbrev pub SignNumber : List ℕ → Type 0
SignNumber = After (optional (prefix fsw)) BoxNumber

-- the law of places: in FSW byte by byte, and a wrong number at its first; in SWU each outcome exactly where it holds (see Means)
abbrev pub SignPlaces : Charset → Type 0
SignPlaces Fsw = ByNumbers fsw_number (sign Fsw) SignNumber
SignPlaces Swu = (text : List ℕ) (o : Outcome Meaning) → (read_sign Swu text ≡ o) ↔ Means 4 (sign Swu) text o

pub record SignLaws (set : Charset) : Type 0 where
  -- reading what was written gives the sign back, and writing what was read gives the text back
  pub reads : (m : Meaning) → Valid m → read_sign set (sign_text set m) ≡ fine m
  pub writes : (text : List ℕ) (m : Meaning) → read_sign set text ≡ fine m → Valid m × (text ≡ sign_text set m)
  -- so a text has one meaning
  pub one : (m k : Meaning) → Valid m → Valid k → sign_text set m ≡ sign_text set k → m ≡ k
  pub places : SignPlaces set

abbrev pub longest : Charset → ℕ
longest Fsw = 1033
longest Swu = 912

-- with at most 32 prefix symbols and 64 signbox symbols a sign is no longer than this, and one is as long
pub record Longest (set : Charset) : Type 0 where
  pub most : (m : Meaning) → Valid m → length m.prefix ≤ 32 → length m.symbols ≤ 64 → length (sign_text set m) ≤ longest set
  pub sign : Meaning
  pub valid : Valid sign
  pub prefix : length sign.prefix ≡ 32
  pub symbols : length sign.symbols ≡ 64
  pub size : length (sign_text set sign) ≡ longest set
