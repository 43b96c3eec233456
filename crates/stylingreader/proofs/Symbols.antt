-- The symbol styles of both kinds: one law for each return of the function that reads them.
use Prim.Native.Nat.{ℕ, ◌+◌, ◌≤◌, min}
use mathlib.Core.List.{List, [], ◌∷◌}
use mathlib.Core.Path.{◌≡◌, refl, sym, ap, ◌∙◌}
use mathlib.Core.Bool.{Bool, true, false, ◌&&◌}
use lib.ListN.{length, set}
use native.Mathlib.Omega.{arith}
use Rattle.format.specs.Format.{every}
use Rattle.format.proofs.Lawful.{Lawful}
use Rattle.format.proofs.Lists.{every_true}
use Rattle.stylinggrammar.specs.Styling.{Detail, Decimal, Symbols, symbols}
use Rattle.stylinggrammar.specs.Meaning.{short_detail, good_zoom}
use Rattle.stylinggrammar.proofs.Styling.{many_colours_exact}
use Rattle.stylinggrammar.specs.Filling.{row_of, put_rows, put_colours, put_zoom}
use Rattle.std.specs.Prelude.{Ok, Err}
use Rattle.token.specs.declared.refusal.Refusal.{Refusal}
use Rattle.stylingreader.specs.declared.part.Part.{Part}
use Rattle.stylingreader.specs.Parts.{Taking, PartIn, both, joined_part}
use Rattle.stylingreader.specs.Takings.{take_zooming, styles, take_styles, take_symbols}
use Rattle.stylingreader.proofs.Chains.{Taken, taken, first_fails, second_fails, joins, part_beside}

-- rows from 64 on are one
rows_same : {A : Type 0} (put : ℕ → A → List ℕ → List ℕ) (l : List A) (j k : ℕ) (o : List ℕ) → min 64 j ≡ min 64 k
    → put_rows (λ k. put (row_of k)) j l o ≡ put_rows (λ k. put (row_of k)) k l o
rows_same put [] j k o e = refl
rows_same put (a ∷ l) j k o e =
    rows_same put l (j + 1) (k + 1) (put (row_of j) a o) (omega arith)
    ∙ ap (λ i. put_rows (λ k. put (row_of k)) (k + 1) l (put i a o)) (let z : row_of j ≡ row_of k = omega arith in z)

colours_lawful : Lawful 1 (styles false)
colours_lawful = many_colours_exact.lawful

abbrev zooms_after : List (ℕ × Detail) → Taking (List (ℕ × Decimal))
zooms_after l = take_styles true (min 65 (0 + length l))

module _ (s : List ℕ) (at : ℕ) (h : at ≤ length s) where
  pub colours_fail : (e : Refusal) (o p q : List ℕ) → PartIn (styles false) (take_styles false 0) s at (Err e) o p → PartIn symbols take_symbols s at (Err e) o q
  colours_fail e o p q x = first_fails (styles false) (λ l. styles true) colours_lawful (take_styles false 0) zooms_after s at h e o p x take_symbols o q

  module _ (r : Part) (o p : List ℕ) (x : PartIn (styles false) (take_styles false 0) s at (Ok r) o p) where
    colours : Taken (styles false) (take_styles false 0) s at r o p
    colours = taken (styles false) (take_styles false 0) s at r o p colours_lawful h x

    pub colours_room : (r.place ≤ length s) × (r.amount ≤ 65)
    colours_room = (colours.got.room, omega (arith, colours.took.amount))

    pub zooms_fail : (e : Refusal) (q m : List ℕ) → PartIn (styles true) (take_styles true r.amount) s r.place (Err e) p q → PartIn symbols take_symbols s at (Err e) o m
    zooms_fail e q m y =
        second_fails (styles false) (λ l. styles true) colours_lawful (take_styles false 0) zooms_after s at h r o p colours e q
        (rw colours.took.amount at y) take_symbols o m

    module _ (t c : Part) (q m : List ℕ) (y : PartIn (styles true) (take_styles true r.amount) s r.place (Ok t) p q) (e : c ≡ joined_part r t) (w : m ≡ set q 4 t.amount) where
      two : PartIn symbols (both (take_styles false 0) zooms_after) s at (Ok c) o q
      two =
          joins (styles false) (λ l. styles true) colours_lawful (take_styles false 0) zooms_after s at h r o p colours t c q
          (rw colours.took.amount at y) e

      names-go : (a b : Bool) → b ≡ true → (a && b) ≡ a
      names-go true b e = e
      names-go false b e = refl

      counted : (l : Symbols) → min 65 (min 65 (0 + length l.0) + length l.1) ≡ min 65 (length l.0 + length l.1)
      counted l = omega arith

      rows : (l : Symbols) (o : List ℕ) → (both (take_styles false 0) zooms_after).put l o ≡ put_rows put_zoom (length l.0) l.1 (put_rows put_colours 0 l.0 o)
      rows l o = rows_same (λ row. (take_zooming row).put) l.1 (min 65 (0 + length l.0)) (length l.0) (put_rows put_colours 0 l.0 o) (omega arith)

      pub symbols-read : PartIn symbols take_symbols s at (Ok c) o m
      symbols-read =
          part_beside symbols (both (take_styles false 0) zooms_after) take_symbols s at c o q o m
          (λ l. ap (λ t. t && every (λ p. good_zoom p.1) l.1) (every_true l.0))
          (λ l. names-go (every (λ p. short_detail p.1) l.0) (every (λ p. true) l.1) (every_true l.1))
          counted
          (λ l a k. w ∙ (λ i. set (k i) 4 ((sym (ap (λ c. c.amount) e) ∙ a) i)) ∙ (λ i. set (rows l o i) 4 (counted l i))) two
