-- A prefix symbol that a quick look finds.
use Rattle.std.proofs.Common.{ℕ, zero, suc, List, arith}
use Rattle.std.specs.Prelude.{Option}
use Rattle.charset.specs.declared.Charset.{Charset}
use Rattle.charset.specs.declared.Charset.TheVariants.{Fsw, Swu}
use Rattle.charset.specs.Tokens.{tokens, last_location}
use Rattle.grammar.specs.Sign.{prefix_symbol}
use Rattle.part.specs.Inner.{Spelled, Sure}

-- a symbol that is not null is written alike where null is allowed
alike : (set : Charset) (s : List ℕ) (at code : ℕ) → Spelled (tokens set).symbol_size ((tokens set).symbol last_location) s at code
    → Spelled (tokens set).symbol_size (prefix_symbol (tokens set)) s at code
alike Fsw s at zero j = absurd (omega (arith, j.valid.0))
alike Fsw s at (suc n) j = record { valid = (omega arith, j.valid.1); bytes = j.bytes }
alike Swu s at code j = record { valid = (omega arith, j.valid.1); bytes = j.bytes }

pub prefix_sure : (set : Charset) (s : List ℕ) (at : ℕ) (r : Option ℕ) → Sure (tokens set).symbol_size ((tokens set).symbol last_location) s at r
    → Sure (tokens set).symbol_size (prefix_symbol (tokens set)) s at r
prefix_sure set s at r p = record { is = λ code e. alike set s at code (p.is code e) }
