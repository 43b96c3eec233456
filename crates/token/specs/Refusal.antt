-- Document 01, "Refusal numbers", and those of document 02, by name.
use Rattle.std.specs.Prelude.{ℕ, Bool, false, eqb}
use Rattle.token.specs.declared.refusal.Refusal.{Refusal}
use Rattle.token.specs.declared.refusal.Refusal.TheVariants.{TextWrong, TextShort, PrefixLong, SignboxLong, RangeReversed, RoomShort, SizesLength, SymbolUnsized, NoSymbols, NumberOutside, ListWrong, DictionaryUnended, LineWrong, TooMany, CodeWrong, EntryAbsent, ZoomOutside, ColourLong, StylesLong, AlternativesLong}

abbrev pub text_wrong : ℕ
text_wrong = 1

abbrev pub text_short : ℕ
text_short = 2

abbrev pub prefix_long : ℕ
prefix_long = 3

abbrev pub signbox_long : ℕ
signbox_long = 4

abbrev pub range_reversed : ℕ
range_reversed = 5

abbrev pub room_short : ℕ
room_short = 6

abbrev pub sizes_length : ℕ
sizes_length = 7

abbrev pub symbol_unsized : ℕ
symbol_unsized = 8

abbrev pub no_symbols : ℕ
no_symbols = 9

abbrev pub number_outside : ℕ
number_outside = 10

abbrev pub list_wrong : ℕ
list_wrong = 11

abbrev pub dictionary_unended : ℕ
dictionary_unended = 12

abbrev pub line_wrong : ℕ
line_wrong = 13

abbrev pub too_many : ℕ
too_many = 14

abbrev pub code_wrong : ℕ
code_wrong = 15

abbrev pub entry_absent : ℕ
entry_absent = 16

-- a zoom out of range or with over two decimals, a colour name over 24 letters, more than 64 symbol styles
abbrev pub zoom_outside : ℕ
zoom_outside = 17

abbrev pub colour_long : ℕ
colour_long = 18

abbrev pub styles_long : ℕ
styles_long = 19

-- more than eight alternatives in an item of a query
abbrev pub alternatives_long : ℕ
alternatives_long = 22

-- the number and the place of each refusal
abbrev pub number_of : Refusal → ℕ
number_of (TextWrong place) = text_wrong
number_of (TextShort place) = text_short
number_of PrefixLong = prefix_long
number_of SignboxLong = signbox_long
number_of (RangeReversed place) = range_reversed
number_of (RoomShort place) = room_short
number_of SizesLength = sizes_length
number_of (SymbolUnsized place) = symbol_unsized
number_of NoSymbols = no_symbols
number_of NumberOutside = number_outside
number_of ListWrong = list_wrong
number_of DictionaryUnended = dictionary_unended
number_of (LineWrong place) = line_wrong
number_of TooMany = too_many
number_of CodeWrong = code_wrong
number_of EntryAbsent = entry_absent
number_of ZoomOutside = zoom_outside
number_of ColourLong = colour_long
number_of StylesLong = styles_long
number_of AlternativesLong = alternatives_long

abbrev pub place_of : Refusal → ℕ
place_of (TextWrong place) = place
place_of (TextShort place) = place
place_of PrefixLong = 0
place_of SignboxLong = 0
place_of (RangeReversed place) = place
place_of (RoomShort place) = place
place_of SizesLength = 0
place_of (SymbolUnsized place) = place
place_of NoSymbols = 0
place_of NumberOutside = 0
place_of ListWrong = 0
place_of DictionaryUnended = 0
place_of (LineWrong place) = place
place_of TooMany = 0
place_of CodeWrong = 0
place_of EntryAbsent = 0
place_of ZoomOutside = 0
place_of ColourLong = 0
place_of StylesLong = 0
place_of AlternativesLong = 0

-- a text that is wrong at an offset
abbrev pub wrong_at : ℕ → Refusal → Bool
wrong_at at (TextWrong place) = eqb place at
wrong_at at _ = false
