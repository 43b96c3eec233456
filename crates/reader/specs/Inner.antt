-- What the functions of reading a sign promise: what they answer, and what the lent memory holds.
use Rattle.std.specs.Prelude.{Result as Answer, Ok, Err, ℕ, ◌≡◌, List, map, ltb, length}
use Rattle.format.specs.Format.{choose, optional, many}
use Rattle.format.specs.Located.{locate, on_found}
use Rattle.charset.specs.declared.Charset.{Charset}
use Rattle.charset.specs.Tokens.{tokens}
use Rattle.token.specs.declared.refusal.Refusal.{Refusal}
use Rattle.token.specs.declared.refusal.Refusal.TheVariants.{PrefixLong, SignboxLong}
use Rattle.token.specs.Result.{Result, refusal, done, outcome, on_done, of_outcome, of_located, result_at}
use Rattle.token.specs.Token.{token_at}
use Rattle.grammar.specs.declared.Head.{Head}
use Rattle.grammar.specs.declared.Symbols.{Symbols}
use Rattle.grammar.specs.Sign.{Spatial, Meaning, prefix_symbol, prefix, spatial, signbox, sign, to_spatial, to_prefix, read_sign}
use Rattle.reader.specs.declared.arrays.Count.{Count}
use Rattle.token.specs.Padded.{padded, zeros}
use Rattle.reader.specs.Signs.{sign_of}

-- zero or more, counted; and a lent array that holds the first n of them
abbrev pub count_of : {A : Type 0} → List A × ℕ → Count
count_of p = record { count = length p.0; end = p.1 }

abbrev pub Holds : {A : Type 0} → ℕ → (A → ℕ) → Result (List A × ℕ) → List ℕ → Type 0
Holds n of (refusal number place) array = Unit
Holds n of (done p) array = array ≡ padded n (map of p.0)

pub record PrefixIn (set : Charset) (s : List ℕ) (at : ℕ) (r : Answer Count Refusal) (codes : List ℕ) : Type 0 where
  pub is : outcome r ≡ on_done count_of (result_at (many (prefix_symbol (tokens set))) s at)
  pub holds : Holds 32 (λ c. c) (result_at (many (prefix_symbol (tokens set))) s at) codes

-- memory with no signbox symbols yet
pub record Room (symbols : Symbols) : Type 0 where
  pub codes : symbols.codes ≡ zeros 64
  pub xs : symbols.xs ≡ zeros 64
  pub ys : symbols.ys ≡ zeros 64

pub record SymbolsIn (set : Charset) (s : List ℕ) (at : ℕ) (r : Answer Count Refusal) (old new : Symbols) : Type 0 where
  pub is : outcome r ≡ on_done count_of (result_at (many (spatial (tokens set))) s at)
  pub prefix : new.prefix ≡ old.prefix
  pub holds_codes : Holds 64 (λ p. p.0) (result_at (many (spatial (tokens set))) s at) new.codes
  pub holds_xs : Holds 64 (λ p. p.1.0) (result_at (many (spatial (tokens set))) s at) new.xs
  pub holds_ys : Holds 64 (λ p. p.1.1) (result_at (many (spatial (tokens set))) s at) new.ys

-- the numbers of a sign, and its symbols as they lie in memory
abbrev pub head_of : Meaning → Head
head_of m = record { marker = m.marker; max_x = m.x; max_y = m.y; prefix_count = length m.prefix; symbol_count = length m.symbols }

abbrev pub symbols_of : Meaning → Symbols
symbols_of m = record {
  prefix = padded 32 m.prefix;
  codes = padded 64 (map (λ s. s.code) m.symbols);
  xs = padded 64 (map (λ s. s.x) m.symbols);
  ys = padded 64 (map (λ s. s.y) m.symbols);
}

-- the numbers of a signbox after a prefix of n symbols
abbrev pub box_head : ℕ → (ℕ × (ℕ × ℕ)) × List (ℕ × (ℕ × ℕ)) → Head
box_head n b = record { marker = b.0.0; max_x = b.0.1.0; max_y = b.0.1.1; prefix_count = n; symbol_count = length b.1 }

pub record HoldsSpatial (l : List Spatial) (symbols : Symbols) : Type 0 where
  pub codes : symbols.codes ≡ padded 64 (map (λ s. s.code) l)
  pub xs : symbols.xs ≡ padded 64 (map (λ s. s.x) l)
  pub ys : symbols.ys ≡ padded 64 (map (λ s. s.y) l)

abbrev pub HoldsBox : Result (((ℕ × (ℕ × ℕ)) × List (ℕ × (ℕ × ℕ))) × ℕ) → Symbols → Type 0
HoldsBox (refusal number place) symbols = Unit
HoldsBox (done p) symbols = HoldsSpatial (map to_spatial p.0.1) symbols

-- a signbox that was read after a prefix of n symbols, and where it ends
pub record SignboxIn (set : Charset) (s : List ℕ) (at n : ℕ) (r : Answer (Head × ℕ) Refusal) (old new : Symbols) : Type 0 where
  pub is : outcome r ≡ on_done (λ p. (box_head n p.0, p.1)) (result_at (signbox (tokens set)) s at)
  pub prefix : new.prefix ≡ old.prefix
  pub holds : HoldsBox (result_at (signbox (tokens set)) s at) new

-- a text that begins with the A of a prefix
pub record Begun (set : Charset) (s : List ℕ) : Type 0 where
  pub marker : ℕ
  pub is : token_at ((tokens set).marker 0 0) s 0 ≡ Ok marker

-- the prefix at the start of a text, empty where there is none, and where it ends
abbrev pub prefix_at : Charset → List ℕ → Result (List ℕ × ℕ)
prefix_at set s = of_located (length s) (on_found to_prefix (locate (optional (prefix (tokens set))) s 0))

pub record LeadingPrefix (set : Charset) (s : List ℕ) (r : Answer Count Refusal) (codes : List ℕ) : Type 0 where
  pub is : outcome r ≡ on_done count_of (prefix_at set s)
  pub holds : Holds 32 (λ c. c) (prefix_at set s) codes

-- memory that holds the symbols of a sign that was read
abbrev pub HoldsSign : Result Meaning → Symbols → Type 0
HoldsSign (refusal number place) symbols = Unit
HoldsSign (done m) symbols = symbols ≡ symbols_of m

-- the sign that stands at the start, and where it ends
pub record SignInto (set : Charset) (s : List ℕ) (r : Answer (Head × ℕ) Refusal) (symbols : Symbols) : Type 0 where
  pub is : outcome r ≡ on_done (λ p. (head_of p.0, p.1)) (result_at (sign set) s 0)
  pub holds : HoldsSign (on_done (λ p. p.0) (result_at (sign set) s 0)) symbols

-- what the whole text says, and what is within the limits
pub record TextInto (set : Charset) (s : List ℕ) (r : Answer Head Refusal) (symbols : Symbols) : Type 0 where
  pub is : outcome r ≡ on_done head_of (of_outcome (length s) (read_sign set s))
  pub holds : HoldsSign (of_outcome (length s) (read_sign set s)) symbols

unfoldable pub limited : Head → Answer Head Refusal
limited h = choose (ltb 32 h.prefix_count) (Err PrefixLong) (choose (ltb 64 h.symbol_count) (Err SignboxLong) (Ok h))

pub record ReadInto (set : Charset) (s : List ℕ) (r : Answer Head Refusal) (symbols : Symbols) : Type 0 where
  pub is : outcome r ≡ on_done head_of (sign_of set s)
  pub holds : HoldsSign (sign_of set s) symbols
