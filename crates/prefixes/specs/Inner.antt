-- What the inner functions of comparing prefixes promise.
use Rattle.std.specs.Prelude.{ℕ, zero, suc, ◌+◌, ◌≡◌, List, [], ◌∷◌, Bool, true, false, ◌&&◌, eqb, leb, length, take, drop, get_or}
use Rattle.format.specs.Format.{choose}
use Rattle.charset.specs.declared.Charset.{Charset}
use Rattle.charset.specs.Tokens.{tokens}
use Rattle.prefixes.specs.Words.{number, words_from, marked, words_at}

-- the word of the symbol with which a text begins, by its size and its lead byte; 0 where there is none
abbrev pub word_in : ℕ → ℕ → List ℕ → ℕ
word_in size lead text = choose (eqb (get_or text 0 0) lead && leb size (length text)) (number (take size text)) 0

-- a word before others, where 0 stands for none
abbrev pub with_word : ℕ → List ℕ → List ℕ
with_word zero l = []
with_word (suc w) l = suc w ∷ l

-- the first word of a prefix before the others, where the greatest number stands for none: signs without prefix come last
abbrev pub no_prefix : ℕ
no_prefix = 0xffffffffffffffff

abbrev pub with_first : ℕ → List ℕ → List ℕ
with_first w l = choose (eqb w no_prefix) [] (w ∷ l)

-- the bytes of the A and of a symbol
abbrev pub first_size : Charset → ℕ
first_size set = (tokens set).marker_size + (tokens set).symbol_size

-- the word at an offset, and the first of the prefix there
pub record WordAt (set : Charset) (s : List ℕ) (at r : ℕ) : Type 0 where
  pub is : (k : ℕ) → words_from set (suc k) (drop at s) ≡ with_word r (words_from set k (drop (at + (tokens set).symbol_size) s))

-- an A at an offset; where there is none, no prefix
pub record MarkedAt (set : Charset) (s : List ℕ) (at : ℕ) (r : Bool) : Type 0 where
  pub yes : r ≡ true → marked set (drop at s) ≡ true
  pub no : r ≡ false → words_at set s at ≡ []

pub record FirstAt (set : Charset) (s : List ℕ) (at r : ℕ) : Type 0 where
  pub is : words_at set s at ≡ with_first r (words_from set 31 (drop (at + first_size set) s))
