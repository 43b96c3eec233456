-- Document 02, Q-8: where each symbol stands in the text of a sign, as the byte offset where its key begins, in SWU its character.
-- Tokens have fixed sizes, so that the counts of symbols give every offset.
use Rattle.std.specs.Prelude.{ℕ, zero, suc, ◌+◌, ◌<◌, List, [], ◌∷◌, take, drop}
use Rattle.format.specs.Format.{All}
use Rattle.charset.specs.declared.Charset.{Charset}
use Rattle.charset.specs.Tokens.{tokens}
use Rattle.grammar.specs.Size.{spatial_size, sign_size}

-- n numbers: the first, and each by size more than the one before
unfoldable pub steps : ℕ → ℕ → ℕ → List ℕ
steps first size zero = []
steps first size (suc n) = first ∷ steps (first + size) size n

-- of p prefix symbols: the first follows the A
abbrev pub prefix_offsets : Charset → ℕ → List ℕ
prefix_offsets set p = steps (tokens set).marker_size (tokens set).symbol_size p

-- of n signbox symbols after p prefix symbols: the first stands where the sign would end without them
abbrev pub symbol_offsets : Charset → ℕ → ℕ → List ℕ
symbol_offsets set p n = steps (sign_size set p 0) (spatial_size set) n

-- each is less than all after it
abbrev pub Rises : List ℕ → Type 0
Rises [] = Unit
Rises (a ∷ l) = All (λ b. a < b) l × Rises l

-- the bytes of a symbol from an offset of a text on: its key or its character
abbrev pub symbol_bytes : Charset → List ℕ → ℕ → List ℕ
symbol_bytes set text offset = take (tokens set).symbol_size (drop offset text)
