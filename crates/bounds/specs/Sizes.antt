-- Document 01, "Refusal numbers": what is refused of sizes, in the order 7, 9, 8.
use Rattle.std.specs.Prelude.{ℕ, ◌+◌, Bool, ◌&&◌, not, List, [], ◌∷◌, map, eqb, ltb, length}
use Rattle.format.specs.Format.{choose}
use Rattle.grammar.specs.Sign.{Spatial}
use Rattle.token.specs.Refusal.{sizes_length, no_symbols, symbol_unsized}
use Rattle.token.specs.Result.{Result, done, check}
use Rattle.bounds.specs.declared.groups.Groups.{Groups}
use Rattle.bounds.specs.Boxes.{width_of, height_of, groups_of}

-- A zero width or height means that the symbol has no glyph.
abbrev pub has_size : List ℕ → ℕ → Bool
has_size sizes code = not (eqb (width_of sizes code) 0) && not (eqb (height_of sizes code) 0)

-- the number of the first code without size, where the first of the list has the number k; 0 where each has one
unfoldable pub first_unsized : List ℕ → ℕ → List ℕ → ℕ
first_unsized sizes k [] = 0
first_unsized sizes k (code ∷ l) = choose (has_size sizes code) (first_unsized sizes (k + 1) l) k

abbrev pub unsized_symbol : List ℕ → List Spatial → ℕ
unsized_symbol sizes l = first_unsized sizes 1 (map (λ s. s.code) l)

-- the groups of the symbols of a signbox
unfoldable pub measured : List ℕ → List Spatial → Result Groups
measured sizes l =
    check (eqb (length sizes) 125184) sizes_length 0
    (check (ltb 0 (length l)) no_symbols 0
    (check (eqb (unsized_symbol sizes l) 0) symbol_unsized (unsized_symbol sizes l)
    (done (groups_of sizes l))))
