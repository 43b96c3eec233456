-- The words of a prefix: the bytes of each symbol as one number. In both character sets they stand in the order of the
-- symbols' codes, so that prefixes are compared without being decoded.
use Rattle.std.specs.Prelude.{ℕ, zero, suc, ◌+◌, ◌*◌, List, [], ◌∷◌, Bool, ◌&&◌, eqb, leb, length, take, drop, get_or}
use Prim.Native.Char.{code}
use Rattle.format.specs.Format.{choose}
use Rattle.charset.specs.declared.Charset.{Charset}
use Rattle.charset.specs.declared.Charset.TheVariants.{Fsw, Swu}
use Rattle.charset.specs.Tokens.{tokens}
use Rattle.grammar.specs.Sign.{prefix_symbol}

-- bytes as one number, the first the highest
abbrev pub number_from : ℕ → List ℕ → ℕ
number_from n [] = n
number_from n (b ∷ text) = number_from (n * 256 + b) text

abbrev pub number : List ℕ → ℕ
number = number_from 0

-- the word of the prefix symbol with this code
unfoldable pub word_of : Charset → ℕ → ℕ
word_of set code = number ((prefix_symbol (tokens set)).write code)

-- the byte with which every symbol begins
abbrev pub lead_byte : Charset → ℕ
lead_byte Fsw = code "S"
lead_byte Swu = 0xf1

-- a symbol's lead byte with room for the symbol: what follows it is not looked at
abbrev pub begins : Charset → List ℕ → Bool
begins set text = eqb (get_or text 0 0) (lead_byte set) && leb (tokens set).symbol_size (length text)

-- the words of a text as far as symbols go, at most n
unfoldable pub words_from : Charset → ℕ → List ℕ → List ℕ
words_from set zero text = []
words_from set (suc n) text =
    choose (begins set text) (number (take (tokens set).symbol_size text) ∷ words_from set n (drop (tokens set).symbol_size text)) []

-- the marker A
abbrev pub marked : Charset → List ℕ → Bool
marked set text = eqb (number (take (tokens set).marker_size text)) (number (((tokens set).marker 0 0).write 0))

-- the words of a text's prefix: at most 32 after the A, and none where there is no A
unfoldable pub words_in : Charset → List ℕ → List ℕ
words_in set text = choose (marked set text) (words_from set 32 (drop (tokens set).marker_size text)) []

-- at an offset
abbrev pub words_at : Charset → List ℕ → ℕ → List ℕ
words_at set s at = words_in set (drop at s)
