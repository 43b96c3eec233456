-- Lines with a number, `key=number` and byte 10 (document 01, "The search program").
use Rattle.std.specs.Prelude.{ℕ, zero, suc, ◌+◌, ◌/◌, ◌%◌, List, [], ◌∷◌, ◌++◌, ltb}
use Rattle.format.specs.Format.{choose}
use Rattle.charset.specs.Bytes.{ascii}

abbrev pub digit : ℕ → List ℕ
digit d = (48 + d) ∷ []

-- a number in at most k decimal digits
unfoldable pub decimal_in : ℕ → ℕ → List ℕ
decimal_in zero n = []
decimal_in (suc k) n = choose (ltb n 10) (digit n) (decimal_in k (n / 10) ++ digit (n % 10))

-- a number in its shortest decimal form: n + 1 digits are always enough
unfoldable pub decimal : ℕ → List ℕ
decimal n = decimal_in (suc n) n

-- the key stands with its `=`
unfoldable pub key_line : List ℕ → ℕ → List ℕ
key_line key n = key ++ decimal n ++ (10 ∷ [])

-- a line for each entry
unfoldable pub entry_lines : List ℕ → List ℕ
entry_lines [] = []
entry_lines (e ∷ entries) = key_line (ascii "entry=") e ++ entry_lines entries
