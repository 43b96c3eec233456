-- What is proved of keys, codes and characters, in both character sets.
use Rattle.std.specs.Prelude.{ℕ, ◌+◌, ◌-◌, ◌*◌, ◌/◌, ◌%◌, ◌≤◌, ◌≡◌, List, [], ◌∷◌, ◌↔◌}
use Prim.Native.Char.{code}
use Rattle.format.specs.Numeral.{Range}
use Rattle.format.specs.Places.{Outcome, reading, Means, ByBytes}
use Rattle.charset.specs.declared.Charset.{Charset}
use Rattle.charset.specs.declared.Charset.TheVariants.{Fsw}
use Rattle.charset.specs.Bytes.{digit_byte}
use Rattle.charset.specs.Tokens.{tokens}
use Rattle.token.specs.Result.{done}
use Rattle.token.specs.Symbol.{any_symbol}
use Rattle.symbol.specs.Codes.{code_of, code_text}

pub record CodeLaws (set : Charset) : Type 0 where
  -- the code of the text of a code, and the text of the code of a text
  pub reads : (code : ℕ) (text : List ℕ) → code_text set code ≡ done text → code_of set text ≡ done code
  pub writes : (text : List ℕ) (code : ℕ) → code_of set text ≡ done code → code_text set code ≡ done text
  -- every code up to 62,592 has a text
  pub all : (code : ℕ) → code ≤ 62592 → code_text set code ≡ done ((any_symbol set).write code)
  -- the law of places
  pub places : (text : List ℕ) (o : Outcome ℕ) → (reading (tokens set).unit (any_symbol set) text ≡ o) ↔ Means (tokens set).unit (any_symbol set) text o

-- for keys, byte by byte
abbrev pub KeyPlaces : Type 0
KeyPlaces = ByBytes (any_symbol Fsw)

-- Document 01, "Symbols and numbers": base, fill and rotation, the key that they spell, and the code that they have
pub record Key : Type 0 where
  pub base : ℕ
  pub fill : ℕ
  pub rotation : ℕ

pub record ValidKey (k : Key) : Type 0 where
  pub base : Range 0x100 0x38b k.base
  pub fill : k.fill ≤ 5
  pub rotation : k.rotation ≤ 15

abbrev pub key_text : Key → List ℕ
key_text k =
    code "S" ∷ digit_byte (k.base / 256) ∷ digit_byte (k.base / 16 % 16) ∷ digit_byte (k.base % 16) ∷ digit_byte k.fill ∷ digit_byte k.rotation ∷ []

abbrev pub key_code : Key → ℕ
key_code k = (k.base - 256) * 96 + k.fill * 16 + k.rotation + 1

-- a text with a code, spelled by a key
pub record Spelled (text : List ℕ) (n : ℕ) : Type 0 where
  pub key : Key
  pub valid : ValidKey key
  pub spells : text ≡ key_text key
  pub codes : n ≡ key_code key

pub record KeyLaws : Type 0 where
  pub writes : (k : Key) → ValidKey k → code_text Fsw (key_code k) ≡ done (key_text k)
  pub reads : (k : Key) → ValidKey k → code_of Fsw (key_text k) ≡ done (key_code k)
  -- no other text is read, but that of null
  pub only : (text : List ℕ) (n : ℕ) → code_of Fsw text ≡ done n → 1 ≤ n → Spelled text n
