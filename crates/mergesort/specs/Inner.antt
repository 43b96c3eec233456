-- The order by which the sort compares: of the prefixes at the places that a table has for two numbers, whatever the table.
use Rattle.std.specs.Prelude.{ℕ, List, Bool}
use Rattle.charset.specs.declared.Charset.{Charset}
use Rattle.arrangement.specs.Prefixes.{prefix_before}
use Rattle.linetable.specs.Table.{start_in}
use Rattle.prefixes.specs.Words.{words_at}
use Rattle.mergesort.specs.declared.parts.Order.{Order}

unfoldable pub placed_before : Charset → List ℕ → List ℕ → List ℕ → ℕ → ℕ → Bool
placed_before set dict bases offsets a b = prefix_before (words_at set dict (start_in dict bases offsets a)) (words_at set dict (start_in dict bases offsets b))

abbrev pub before : Order → ℕ → ℕ → Bool
before order = placed_before order.set order.starts.dict.now order.starts.bases.now order.starts.offsets.now
