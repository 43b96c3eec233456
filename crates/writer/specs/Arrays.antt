-- A sign that lies in memory.
use Rattle.std.specs.Prelude.{ℕ, zero, suc, List, [], ◌∷◌, ◌++◌, get_or, map}
use Rattle.charset.specs.declared.Charset.{Charset}
use Rattle.charset.specs.Tokens.{tokens}
use Rattle.format.specs.Format.{optional, many}
use Rattle.grammar.specs.declared.Head.{Head}
use Rattle.grammar.specs.declared.Symbols.{Symbols}
use Rattle.grammar.specs.Sign.{Spatial, Meaning, prefix, spatial, of_prefix, of_spatial}

-- f 0 to f (n - 1)
unfoldable pub upto : {A : Type 0} → (ℕ → A) → ℕ → List A
upto f zero = []
upto f (suc n) = upto f n ++ (f n ∷ [])

abbrev pub at : List ℕ → ℕ → ℕ
at l i = get_or l i 0

abbrev pub symbol_at : Symbols → ℕ → Spatial
symbol_at symbols i = record { code = at symbols.codes i; x = at symbols.xs i; y = at symbols.ys i }

-- the sign of a head and as many of the symbols as it counts
abbrev pub meaning_in : Head → Symbols → Meaning
meaning_in head symbols =
    record { prefix = upto (at symbols.prefix) head.prefix_count; marker = head.marker; x = head.max_x; y = head.max_y; symbols = upto (symbol_at symbols) head.symbol_count }

-- the text of a prefix, and of signbox symbols
abbrev pub prefix_text : Charset → List ℕ → List ℕ
prefix_text set l = (optional (prefix (tokens set))).write (of_prefix l)

abbrev pub symbols_text : Charset → List Spatial → List ℕ
symbols_text set l = (many (spatial (tokens set))).write (map of_spatial l)
