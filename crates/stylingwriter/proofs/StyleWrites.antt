-- The styles of symbols, written one after the other: those of one kind, and then those of the other.
use Prim.Native.Nat.{ℕ, zero, suc, ◌+◌, ◌-◌, ◌*◌, ◌≤◌, ◌<◌}
use mathlib.Core.Path.{◌≡◌, refl, sym, ap, ◌∙◌}
use mathlib.Core.List.{List, [], ◌∷◌, ◌++◌, append-nil}
use native.Mathlib.Nat.{add-zero}
use native.Mathlib.Omega.{arith}
use lib.ListN.{length}
use Rattle.std.specs.List.{flat_map, sum_by}
use Rattle.std.proofs.lemmas.Grind.{flat_map-append}
use Rattle.std.proofs.lemmas.List.Sums.{sum_by-append, sum_by-cons, sum_by_push}
use Rattle.token.specs.Wrote.{Wrote}
use Rattle.writer.proofs.Writes.{wrote_more, wrote_as}
use Rattle.stylinggrammar.specs.Meaning.{Style, coloured, zoomed}
use Rattle.stylinggrammar.specs.Record.{row_at, style_at, styles_from}
use Rattle.stylingwriter.specs.Pieces.{coloured_text, coloured_room, zoomed_text, zoomed_room, colours_text, zooms_text}

styles_split : (w : List ℕ) (j k n : ℕ) → styles_from w j (k + n) ≡ styles_from w j k ++ styles_from w (j + k) n
styles_split w j zero n = let e : zero + n ≡ n = omega arith in rw (e, add-zero j)
styles_split w j (suc k) n =
    let e : suc k + n ≡ suc (k + n) = omega arith in
    let d : j + suc k ≡ (j + 1) + k = omega arith in
    rw (e, d) (ap (λ l. style_at w (row_at j) ∷ l) (styles_split w (j + 1) k n))

styles_more : (w : List ℕ) (k : ℕ) → styles_from w 0 (k + 1) ≡ styles_from w 0 k ++ (style_at w (row_at k) ∷ [])
styles_more w k = let e : 0 + k ≡ k = omega arith in styles_split w 0 k 1 ∙ ap (λ j. styles_from w 0 k ++ (style_at w (row_at j) ∷ [])) e

styles_length : (w : List ℕ) (j n : ℕ) → length (styles_from w j n) ≡ n
styles_length w j zero = refl
styles_length w j (suc n) = ap suc (styles_length w (j + 1) n)

-- the texts of one kind are what its format writes
pub colours_are : (l : List Style) → flat_map coloured_text l ≡ colours_text l
colours_are [] = refl
colours_are (coloured n d ∷ l) = ap (λ t. coloured_text (coloured n d) ++ t) (colours_are l)
colours_are (zoomed n z ∷ l) = colours_are l

pub zooms_are : (l : List Style) → flat_map zoomed_text l ≡ zooms_text l
zooms_are [] = refl
zooms_are (coloured n d ∷ l) = zooms_are l
zooms_are (zoomed n z ∷ l) = ap (λ t. zoomed_text (zoomed n z) ++ t) (zooms_are l)

-- room for both kinds
one_room : (s : Style) → coloured_room s + zoomed_room s ≤ 54
one_room (coloured n d) = omega arith
one_room (zoomed n z) = omega arith

rooms : (l : List Style) → sum_by coloured_room l + sum_by zoomed_room l ≤ 54 * length l
rooms [] = omega arith
rooms (s ∷ l) = let h = rooms l in omega (arith, sum_by-cons coloured_room s l, sum_by-cons zoomed_room s l, one_room s)

pub styles_room : (w : List ℕ) (n : ℕ) → sum_by coloured_room (styles_from w 0 n) + sum_by zoomed_room (styles_from w 0 n) ≤ 54 * n
styles_room w n = let e = styles_length w 0 n in omega (arith, rooms (styles_from w 0 n))

-- A loop has written the texts of the first k styles from a up to r, and so made the memory o into p.
pub record PuttingStyles (text : Style → List ℕ) (room : Style → ℕ) (w : List ℕ) (o p : List ℕ) (a r k : ℕ) : Type 0 where
  pub wrote : Wrote o p a r (flat_map text (styles_from w 0 k))
  pub short : r ≤ a + sum_by room (styles_from w 0 k)

module _ (text : Style → List ℕ) (room : Style → ℕ) (w : List ℕ) where
  room_more : (k : ℕ) → sum_by room (styles_from w 0 (k + 1)) ≡ sum_by room (styles_from w 0 k) + room (style_at w (row_at k))
  room_more k = ap (sum_by room) (styles_more w k) ∙ sum_by_push room (styles_from w 0 k) (style_at w (row_at k))

  text_more : (k : ℕ) → flat_map text (styles_from w 0 (k + 1)) ≡ flat_map text (styles_from w 0 k) ++ text (style_at w (row_at k))
  text_more k =
      ap (flat_map text) (styles_more w k) ∙ flat_map-append text (styles_from w 0 k) (style_at w (row_at k) ∷ [])
      ∙ ap (λ t. flat_map text (styles_from w 0 k) ++ t) (append-nil (text (style_at w (row_at k))))

  pub styles_putting : {o p q : List ℕ} {a r t k : ℕ} → PuttingStyles text room w o p a r k → Wrote p q r t (text (style_at w (row_at k)))
      → t ≤ r + room (style_at w (row_at k)) → PuttingStyles text room w o q a t (k + 1)
  styles_putting {k = k} v u b = record { wrote = wrote_as (wrote_more v.wrote u) (sym (text_more k)); short = omega (arith, room_more k, v.short) }

  -- room for one more
  pub room_left : {n : ℕ} {o p : List ℕ} {a r k : ℕ} → a + sum_by room (styles_from w 0 n) ≤ length o → PuttingStyles text room w o p a r k → k < n
      → r + room (style_at w (row_at k)) ≤ length p
  room_left {n} {k = k} fits v h =
      let x = styles_from w (0 + (k + 1)) (n - (k + 1)) in
      let c : (k + 1) + (n - (k + 1)) ≡ n = omega arith in
      let d : sum_by room (styles_from w 0 n) ≡ sum_by room (styles_from w 0 (k + 1)) + sum_by room x =
      ap (λ n. sum_by room (styles_from w 0 n)) (sym c) ∙ ap (sum_by room) (styles_split w 0 (k + 1) (n - (k + 1))) ∙ sum_by-append room (styles_from w 0 (k + 1)) x in
      omega (arith, room_more k, v.short, v.wrote.same)
