-- Memory in which a sign lies.
use Rattle.std.specs.Prelude.{replicate}
use Rattle.grammar.specs.declared.Symbols.{Symbols}

-- without symbols
abbrev pub no_symbols : Symbols
no_symbols = record { prefix = replicate 32 0; codes = replicate 64 0; xs = replicate 64 0; ys = replicate 64 0 }
