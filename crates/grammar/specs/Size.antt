-- How many bytes a sign takes, by the counts of its prefix symbols and signbox symbols.
use Rattle.std.specs.Prelude.{ℕ, zero, suc, ◌+◌, ◌*◌}
use Rattle.charset.specs.declared.Charset.{Charset}
use Rattle.charset.specs.Tokens.{tokens}

abbrev pub lead_size : Charset → ℕ
lead_size set = (tokens set).marker_size + ((tokens set).number_size + (tokens set).second_size)

abbrev pub spatial_size : Charset → ℕ
spatial_size set = (tokens set).symbol_size + ((tokens set).number_size + (tokens set).second_size)

abbrev pub prefix_size : Charset → ℕ → ℕ
prefix_size set zero = 0
prefix_size set (suc n) = (tokens set).marker_size + suc n * (tokens set).symbol_size

abbrev pub sign_size : Charset → ℕ → ℕ → ℕ
sign_size set p n = prefix_size set p + (lead_size set + n * spatial_size set)
