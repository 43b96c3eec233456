-- A shorter memory is filled with the start of what a longer one is: a draft is the start of the record.
use Prim.Native.Nat.{ℕ, zero, suc, ◌+◌, ◌-◌, ◌≤◌, min}
use mathlib.Core.List.{List, [], ◌∷◌, ◌++◌, append_assoc}
use mathlib.Core.Option.{Option, none, some}
use mathlib.Core.Path.{◌≡◌, refl, sym, ap, ◌∙◌}
use lib.ListN.{length, set, get_or, take, drop, length-append, take-append-drop}
use lib.Seq.{sets, length-take-le, drop_at, drop-drop, get_or-take}
use native.Mathlib.Omega.{arith}
use Rattle.stylinggrammar.specs.Styling.{Detail, Decimal, Symbols, Spelling, styling}
use Rattle.stylinggrammar.specs.Meaning.{Styling, meaning}
use Rattle.stylinggrammar.specs.StylingLaws.{Accepted}
use Rattle.stylinggrammar.specs.DraftLaws.{Drafted, DraftLaws}
use Rattle.stylinggrammar.proofs.Spellings.{meaning_valid}
use Rattle.token.specs.Padded.{padded, zeros}
use Rattle.stylinggrammar.specs.Record.{record_size, draft_size, colorize_number, padding_number, zoom_number, colour_numbers, detail_count, detail_numbers, styles_numbers, record_of, row_at}
use Rattle.stylinggrammar.specs.Filling.{put_maybe, put_colour, put_detail, zoom_word, row_of, put_colours, put_zoom, put_rows, put_symbols, put_styling}
use Rattle.token.proofs.PaddedLists.{padded_append, padded_none, take_zeros, drop_zeros}
use Rattle.stylinggrammar.proofs.RecordBlocks.{counts, record_blocks, styles_size, record_size_lem, before_rows, before_rows_size}
use Rattle.stylinggrammar.proofs.Fills.{record_fills}

-- THE START OF WHAT IS FILLED

take_set : {A : Type 0} (k : ℕ) (o : List A) (i : ℕ) (v : A) → take k (set o i v) ≡ set (take k o) i v
take_set zero o i v = refl
take_set (suc k) [] i v = refl
take_set (suc k) (a ∷ o) zero v = refl
take_set (suc k) (a ∷ o) (suc i) v = ap (λ l. a ∷ l) (take_set k o i v)

module _ (k : ℕ) where
  -- the first k numbers afterwards depend on the first k before alone
  abbrev Starts : (List ℕ → List ℕ) → Type 0
  Starts put = (o : List ℕ) → take k (put o) ≡ put (take k o)

  after : (f g : List ℕ → List ℕ) → Starts f → Starts g → Starts (λ o. f (g o))
  after f g a b o = a (g o) ∙ ap f (b o)

  set_starts : (i v : ℕ) → Starts (λ o. set o i v)
  set_starts i v o = take_set k o i v

  sets_starts : (vs : List ℕ) (i : ℕ) → Starts (λ o. sets o i vs)
  sets_starts [] i o = refl
  sets_starts (v ∷ vs) i o = sets_starts vs (suc i) (set o i v) ∙ ap (λ o. sets o (suc i) vs) (take_set k o i v)

  maybe_starts : {A : Type 0} (put : A → List ℕ → List ℕ) → ((a : A) → Starts (put a)) → (m : Option A) → Starts (put_maybe put m)
  maybe_starts put one none o = refl
  maybe_starts put one (some a) o = one a o

  colour_starts : (at : ℕ) (c : List ℕ) → Starts (put_colour at c)
  unfolding put_colour
  colour_starts at c =
      after (λ o. set o at (min 25 (length c))) (λ o. sets o (at + 1) (take 24 c)) (set_starts at (min 25 (length c))) (sets_starts (take 24 c) (at + 1))

  detail_starts : (at : ℕ) (d : Detail) → Starts (put_detail at d)
  detail_starts at d =
      after (put_maybe (put_colour (at + 25)) d.1) (put_colour at d.0) (maybe_starts (put_colour (at + 25)) (colour_starts (at + 25)) d.1) (colour_starts at d.0)

  colours_starts : (n : ℕ) (p : ℕ × Detail) → Starts (put_colours n p)
  colours_starts n p =
      after (put_detail (row_of n + 3) p.1) (λ o. set (set o (row_of n) 1) (row_of n + 1) p.0) (detail_starts (row_of n + 3) p.1)
      (after (λ o. set o (row_of n + 1) p.0) (λ o. set o (row_of n) 1) (set_starts (row_of n + 1) p.0) (set_starts (row_of n) 1))

  zoom_starts : (n : ℕ) (p : ℕ × Decimal) → Starts (put_zoom n p)
  zoom_starts n p =
      after (λ o. set o (row_of n + 2) (zoom_word p.1)) (λ o. set (set o (row_of n) 2) (row_of n + 1) p.0) (set_starts (row_of n + 2) (zoom_word p.1))
      (after (λ o. set o (row_of n + 1) p.0) (λ o. set o (row_of n) 2) (set_starts (row_of n + 1) p.0) (set_starts (row_of n) 2))

  rows_starts : {A : Type 0} (put : ℕ → A → List ℕ → List ℕ) → ((n : ℕ) (a : A) → Starts (put n a)) → (l : List A) (n : ℕ) → Starts (put_rows put n l)
  rows_starts put one [] n o = refl
  rows_starts put one (a ∷ l) n o = rows_starts put one l (n + 1) (put n a o) ∙ ap (put_rows put (n + 1) l) (one n a o)

  symbols_starts : (s : Symbols) → Starts (put_symbols s)
  symbols_starts s =
      let many = min 65 (length s.0 + length s.1) in
      after (λ o. set o 4 many) (λ o. put_rows put_zoom (length s.0) s.1 (put_rows put_colours 0 s.0 o)) (set_starts 4 many)
      (after (put_rows put_zoom (length s.0) s.1) (put_rows put_colours 0 s.0) (rows_starts put_zoom zoom_starts s.1 (length s.0))
      (rows_starts put_colours colours_starts s.0 0))

  styling_starts : (t : Spelling) → Starts (put_styling t)
  unfolding put_styling
  styling_starts t o =
      let colorize : List ℕ → List ℕ = put_maybe (λ c o. set o 0 1) t.colorize in
      let padding : List ℕ → List ℕ = put_maybe (λ n o. set o 1 (1 + n)) t.padding in
      let background : List ℕ → List ℕ = put_maybe (put_colour 5) t.background in
      let detail : List ℕ → List ℕ = put_maybe (λ d o. set (put_detail 30 d o) 3 (detail_count (some d))) t.detail in
      let zoom : List ℕ → List ℕ = put_maybe (λ z o. set o 2 (zoom_word z)) t.zoom in
      let symbols : List ℕ → List ℕ = put_maybe put_symbols t.symbols in
      maybe_starts put_symbols symbols_starts t.symbols (zoom (detail (background (padding (colorize o)))))
      ∙ ap symbols (maybe_starts (λ z o. set o 2 (zoom_word z)) (λ z. set_starts 2 (zoom_word z)) t.zoom (detail (background (padding (colorize o))))
      ∙ ap zoom (maybe_starts (λ d o. set (put_detail 30 d o) 3 (detail_count (some d)))
      (λ d. after (λ o. set o 3 (detail_count (some d))) (put_detail 30 d) (set_starts 3 (detail_count (some d))) (detail_starts 30 d)) t.detail (background (padding (colorize o)))
      ∙ ap detail (maybe_starts (put_colour 5) (colour_starts 5) t.background (padding (colorize o))
      ∙ ap background (maybe_starts (λ n o. set o 1 (1 + n)) (λ n. set_starts 1 (1 + n)) t.padding (colorize o)
      ∙ ap padding (maybe_starts (λ c o. set o 0 1) (λ c. set_starts 0 1) t.colorize o)))))

-- THE START OF A RECORD

-- up to the last of its symbol styles; zeros follow
module _ (s : Styling) (few : length s.symbols ≤ 64) where
  abbrev front : List ℕ
  front =
      counts (colorize_number s.colorize) (padding_number s.padding) (zoom_number s.zoom) (detail_count s.detail) (length s.symbols)
      (colour_numbers s.background ++ detail_numbers s.detail)

  abbrev rows : List ℕ
  rows = styles_numbers s.symbols

  abbrev used : ℕ
  used = row_at (length s.symbols)

  used_size : length (front ++ rows) ≡ used
  used_size =
      omega (
        arith,
        length-append front rows,
        styles_size s.symbols,
        before_rows_size (colorize_number s.colorize) (padding_number s.padding) (zoom_number s.zoom) (detail_count s.detail) (length s.symbols) s.background s.detail,
      )

  record_used : record_of s ≡ (front ++ rows) ++ zeros (record_size - used)
  record_used =
      let left = record_size - used in
      let room : 3392 ≡ length rows + left = omega (arith, styles_size s.symbols) in
      record_blocks s
      ∙ before_rows (colorize_number s.colorize) (padding_number s.padding) (zoom_number s.zoom) (detail_count s.detail) (length s.symbols)
      (colour_numbers s.background) (detail_numbers s.detail) (padded 3392 rows)
      ∙ ap (λ l. front ++ l) (padded_append rows left 3392 room ∙ ap (λ l. rows ++ l) (sym (padded_none left)))
      ∙ sym (append_assoc front rows (zeros left))

  -- no symbol style lies after the draft
  record_rest : length s.symbols ≤ 8 → drop draft_size (record_of s) ≡ zeros (record_size - draft_size)
  record_rest h =
      let more = draft_size - used in
      let at : used + more ≡ draft_size = omega arith in
      let left : record_size - used ≡ more + (record_size - draft_size) = omega arith in
      ap (λ k. drop k (record_of s)) (sym at)
      ∙ sym (drop-drop more used (record_of s))
      ∙ ap (drop more) (ap (drop used) record_used ∙ drop_at (front ++ rows) (zeros (record_size - used)) used used_size ∙ ap zeros left)
      ∙ drop_zeros more (record_size - draft_size)

  record_count : get_or (record_of s) 4 0 ≡ length s.symbols
  record_count = ap (λ l. get_or l 4 0) (record_blocks s)

module _ (t : Spelling) (ok : styling.Valid t) (a : Accepted t) where
  few : length (meaning t).symbols ≤ 64
  few = (meaning_valid t a ok).few

  draft_is : put_styling t (zeros draft_size) ≡ take draft_size (record_of (meaning t))
  draft_is =
      ap (put_styling t) (sym (take_zeros draft_size 2968)) ∙ sym (styling_starts draft_size t (zeros record_size)) ∙ ap (take draft_size) (record_fills t ok a)

  draft_of : Drafted t (put_styling t (zeros draft_size))
  draft_of = record {
    size = ap length draft_is ∙ length-take-le draft_size (record_of (meaning t)) (omega (arith, record_size_lem (meaning t)));
    count = ap (λ l. get_or l 4 0) draft_is ∙ get_or-take draft_size (record_of (meaning t)) 4 0 (omega arith) ∙ record_count (meaning t) few;
    start = λ h. sym (take-append-drop draft_size (record_of (meaning t))) ∙ (λ i. sym draft_is i ++ record_rest (meaning t) few h i);
  }

pub draft_laws : DraftLaws
draft_laws = record { starts = styling_starts; drafts = draft_of }
