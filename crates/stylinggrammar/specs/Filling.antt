-- A record filled part by part, as the parts of a styling string are read. What lies outside the memory is not stored, so that the
-- same reading serves where nothing is kept. Numbers too large for a record are brought down to one that is refused.
use Rattle.std.specs.Prelude.{ℕ, ◌+◌, ◌*◌, min, List, [], ◌∷◌, length, set, take}
use Rattle.std.proofs.Math.Option.{Option, none, some}
use Rattle.std.proofs.lemmas.List.Edits.{sets}
use Rattle.stylinggrammar.specs.Styling.{Detail, Decimal, Symbols, Spelling}
use Rattle.stylinggrammar.specs.Meaning.{wholes, cents}
use Rattle.stylinggrammar.specs.Record.{detail_count, row_at}

abbrev pub put_maybe : {A : Type 0} → (A → List ℕ → List ℕ) → Option A → List ℕ → List ℕ
put_maybe put none o = o
put_maybe put (some a) o = put a o

-- the bytes of a colour after its length, which is put last
unfoldable pub put_colour : ℕ → List ℕ → List ℕ → List ℕ
put_colour at c o = set (sets o (at + 1) (take 24 c)) at (min 25 (length c))

abbrev pub put_detail : ℕ → Detail → List ℕ → List ℕ
put_detail at d o = put_maybe (put_colour (at + 25)) d.1 (put_colour at d.0 o)

-- a zoom of 100 or more as 100 and its decimals
abbrev pub zoom_word : Decimal → ℕ
zoom_word z = min 100 (wholes z) * 100 + cents z.1

-- where the row of symbol style k starts; after the record where there are more than 64
abbrev pub row_of : ℕ → ℕ
row_of k = row_at (min 64 k)

abbrev pub put_colours : ℕ → ℕ × Detail → List ℕ → List ℕ
put_colours k p o = put_detail (row_of k + 3) p.1 (set (set o (row_of k) 1) (row_of k + 1) p.0)

abbrev pub put_zoom : ℕ → ℕ × Decimal → List ℕ → List ℕ
put_zoom k p o = set (set (set o (row_of k) 2) (row_of k + 1) p.0) (row_of k + 2) (zoom_word p.1)

-- rows one after the other, from row k on
abbrev pub put_rows : {A : Type 0} → (ℕ → A → List ℕ → List ℕ) → ℕ → List A → List ℕ → List ℕ
put_rows put k [] o = o
put_rows put k (a ∷ l) o = put_rows put (k + 1) l (put k a o)

abbrev pub put_symbols : Symbols → List ℕ → List ℕ
put_symbols s o =
    set (put_rows put_zoom (length s.0) s.1 (put_rows put_colours 0 s.0 o)) 4 (min 65 (length s.0 + length s.1))

unfoldable pub put_styling : Spelling → List ℕ → List ℕ
put_styling t o =
    put_maybe put_symbols t.symbols
    (put_maybe (λ z o. set o 2 (zoom_word z)) t.zoom
    (put_maybe (λ d o. set (put_detail 30 d o) 3 (detail_count (some d))) t.detail
    (put_maybe (put_colour 5) t.background
    (put_maybe (λ n o. set o 1 (1 + n)) t.padding
    (put_maybe (λ c o. set o 0 1) t.colorize o)))))
