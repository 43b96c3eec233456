-- Lists in arrays: their places after the list hold zeros.
use Rattle.std.specs.Prelude.{ℕ, zero, suc, List, [], ◌∷◌, replicate}

-- the first n of a list, with zeros where it has fewer
unfoldable pub padded : ℕ → List ℕ → List ℕ
padded zero l = []
padded (suc n) [] = 0 ∷ padded n []
padded (suc n) (v ∷ l) = v ∷ padded n l

abbrev pub zeros : ℕ → List ℕ
zeros n = replicate n 0
