-- How an item becomes three numbers (document 01, "Symbols and numbers" and "A query"; document 02, Q-9).
use Rattle.std.specs.Prelude.{Option as Optional, Some, None, ℕ, ◌+◌, ◌-◌, ◌*◌, ◌%◌}
use Rattle.std.proofs.Math.Option.{Option, none, some}
use Rattle.querygrammar.specs.Spelling.{Item, key_item, range_item, null_item}
use Rattle.queryitem.specs.declared.reading.Numbers.{Numbers}

-- The code is (base - 256) * 96 + fill * 16 + rotation + 1: a base has 96 codes one after the other, and a fill 16 of these.
abbrev pub first_code : ℕ → ℕ
first_code base = (base - 0x100) * 96 + 1

-- The fill decides the first and the last code: those of the base where it is open. A range has those of its bases, and null
-- is code 0 alone.
abbrev pub lowest : Item → ℕ
lowest (key_item base none rotation) = first_code base
lowest (key_item base (some fill) rotation) = first_code base + fill * 16
lowest (range_item from to) = first_code from
lowest null_item = 0

abbrev pub highest : Item → ℕ
highest (key_item base none rotation) = first_code base + 95
highest (key_item base (some fill) rotation) = first_code base + fill * 16 + 15
highest (range_item from to) = first_code to + 95
highest null_item = 0

-- The rotation decides the code's remainder by 16, since 96 and 16 are multiples of 16. Where it is open, 16 stands for any.
abbrev pub turn_of : Option ℕ → ℕ
turn_of none = 16
turn_of (some rotation) = (rotation + 1) % 16

abbrev pub remainder : Item → ℕ
remainder (key_item base fill rotation) = turn_of rotation
remainder (range_item from to) = 16
remainder null_item = 16

abbrev pub numbers_of : Item → Numbers
numbers_of i = record { lo = lowest i; hi = highest i; turn = remainder i }

-- What may be open or absent is `Option` in the formats, and Rust's in the functions.
abbrev pub optionally : {A : Type 0} → Option A → Optional A
optionally none = None
optionally (some a) = Some a

abbrev pub plain : {A : Type 0} → Optional A → Option A
plain None = none
plain (Some a) = some a

-- The coordinate, which is never 0: where there is none, x and y are 0.
abbrev pub x_of : Option (ℕ × ℕ) → ℕ
x_of none = 0
x_of (some p) = p.0

abbrev pub y_of : Option (ℕ × ℕ) → ℕ
y_of none = 0
y_of (some p) = p.1
