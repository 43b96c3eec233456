-- The three words of an item say of a code what the item says, where the item is valid.
use Prim.Native.Nat.{ℕ, zero, suc, ◌+◌, ◌-◌, ◌*◌, ◌/◌, ◌%◌, ◌≤◌, ◌<◌}
use mathlib.Core.Path.{◌≡◌, refl, sym, ap, ◌∙◌}
use mathlib.Core.Logic.{◌⊎◌, inl, inr, ◌↔◌}
use mathlib.Core.Option.{Option, none, some}
use native.Mathlib.Omega.{arith}
use native.Mathlib.Nat.{mod-lt, div-add-mod'}
use Rattle.format.specs.Format.{Any}
use Rattle.querygrammar.specs.Spelling.{Item, key_item, range_item, null_item}
use Rattle.querygrammar.specs.Query.{Base, ValidItem}
use Rattle.queryitem.specs.Numbers.{lowest, highest, turn_of, remainder as turn}
use Rattle.matching.specs.Meets.{base_of, fill_of, rotation_of, Agrees, Satisfies, satisfies}
use Rattle.matching.specs.Inner.{fits_numbers}
use Rattle.matching.specs.WordsLaws.{Lies}
use Rattle.matching.proofs.Deciding.{Decides, alike, both, either, equal, at_most, satisfies_decides}

-- A CODE AND ITS PARTS

-- with the base counted from 0x100
pub record Parts (code b f r : ℕ) : Type 0 where
  pub base : 0x100 + b ≡ base_of code
  pub fill : f ≡ fill_of code
  pub rotation : r ≡ rotation_of code
  pub sum : code ≡ b * 96 + f * 16 + r + 1
  pub few : f ≤ 5
  pub least : r ≤ 15

parts : (code : ℕ) → (code ≡ 0 → ⊥) → Parts code ((code - 1) / 96) ((code - 1) % 96 / 16) ((code - 1) % 96 % 16)
parts code z =
    let a = div-add-mod' (code - 1) 96 in
    let b = mod-lt (code - 1) {m = 96} (omega arith) in
    let c = div-add-mod' ((code - 1) % 96) 16 in
    let d = mod-lt ((code - 1) % 96) {m = 16} (omega arith) in
    record { base = refl; fill = refl; rotation = refl; sum = sum_of code z ((code - 1) / 96) ((code - 1) % 96) ((code - 1) % 96 / 16) ((code - 1) % 96 % 16) a c; few = few-of ((code - 1) % 96) ((code - 1) % 96 / 16) ((code - 1) % 96 % 16) b c; least = least-of ((code - 1) % 96 % 16) d }
  where
    sum_of : (code : ℕ) → (code ≡ 0 → ⊥) → (b t f r : ℕ) → b * 96 + t ≡ code - 1 → f * 16 + r ≡ t → code ≡ b * 96 + f * 16 + r + 1
    sum_of zero z b t f r a c = absurd (z refl)
    sum_of (suc code) z b t f r a c = omega arith

    few-of : (t f r : ℕ) → t < 96 → f * 16 + r ≡ t → f ≤ 5
    few-of t f r h c = omega arith

    least-of : (r : ℕ) → r < 16 → r ≤ 15
    least-of r h = omega arith

-- a code's remainder by 16, from its rotation
remainder : (code b f r : ℕ) → code ≡ b * 96 + f * 16 + r + 1 → r ≤ 15 → code % 16 ≡ (r + 1) % 16
remainder code b f r e h = omega arith

-- AN ITEM AND A CODE

abbrev Asks : Item → ℕ → Type 0
Asks item code = Lies (lowest item) (highest item) (turn item) code

numbers_decide : (item : Item) (code : ℕ) → Decides (fits_numbers (lowest item) (highest item) (turn item) code) (Asks item code)
unfolding fits_numbers
numbers_decide item code =
    both (at_most (lowest item) code) (both (at_most code (highest item)) (either (equal (turn item) 16) (equal (code % 16) (turn item))))

module _ (code b f r : ℕ) (p : Parts code b f r) where
  turn_to : (rotation : Option ℕ) → Any (λ r. r ≤ 15) rotation → (turn_of rotation ≡ 16) ⊎ (code % 16 ≡ turn_of rotation) → Agrees rotation (rotation_of code)
  turn_to none ok t = tt
  turn_to (some k) ok (inl e) = absurd (let h = mod-lt (k + 1) {m = 16} (omega arith) in omega arith)
  turn_to (some k) ok (inr e) = sym p.rotation ∙ equal-turns r k p.least ok (sym (remainder code b f r p.sum p.least) ∙ e)
    where
      equal-turns : (r k : ℕ) → r ≤ 15 → k ≤ 15 → (r + 1) % 16 ≡ (k + 1) % 16 → r ≡ k
      equal-turns r k h l e = omega arith

  turn_from : (rotation : Option ℕ) → Agrees rotation (rotation_of code) → (turn_of rotation ≡ 16) ⊎ (code % 16 ≡ turn_of rotation)
  turn_from none a = inl refl
  turn_from (some k) a = inr (remainder code b f r p.sum p.least ∙ ap (λ r. (r + 1) % 16) (p.rotation ∙ a))

  span_to : (base : ℕ) (fill rotation : Option ℕ) → Base base → Any (λ f. f ≤ 5) fill → lowest (key_item base fill rotation) ≤ code → code ≤ highest (key_item base fill rotation)
      → (base_of code ≡ base) × Agrees fill (fill_of code)
  span_to base none rotation v ok l h =
      let u : 0x100 + b ≡ base = omega (arith, p.sum, p.few, p.least, v.0) in
      (sym p.base ∙ u, tt)
  span_to base (some k) rotation v ok l h =
      let u : 0x100 + b ≡ base = omega (arith, p.sum, p.few, p.least, v.0) in
      let w : f ≡ k = omega (arith, p.sum, p.few, p.least, v.0) in
      (sym p.base ∙ u, sym p.fill ∙ w)

  span_from : (base : ℕ) (fill rotation : Option ℕ) → base_of code ≡ base → Agrees fill (fill_of code)
      → (lowest (key_item base fill rotation) ≤ code) × (code ≤ highest (key_item base fill rotation))
  span_from base none rotation e a =
      let u : 0x100 + b ≡ base = p.base ∙ e in
      (omega (arith, p.sum, p.few, p.least), omega (arith, p.sum, p.few, p.least))
  span_from base (some k) rotation e a =
      let u : 0x100 + b ≡ base = p.base ∙ e in
      let w : f ≡ k = p.fill ∙ a in
      (omega (arith, p.sum, p.few, p.least), omega (arith, p.sum, p.few, p.least))

  asks_to : (item : Item) → ValidItem item → (code ≡ 0 → ⊥) → Asks item code → Satisfies item code
  asks_to (key_item base fill rotation) v z a =
      let s = span_to base fill rotation v.0 v.1.0 a.0 a.1.0 in
      (z, (s.0, (s.1, turn_to rotation v.1.1 a.1.1)))
  asks_to (range_item from to) v z a =
      let l : from ≤ 0x100 + b = omega (arith, p.sum, p.few, p.least, v.0.0, a.0) in
      let h : 0x100 + b ≤ to = omega (arith, p.sum, p.few, p.least, v.1.0, a.1.0) in
      (z, (rw p.base at l, rw p.base at h))
  asks_to null_item v z a = omega (arith, a.1.0)

  asks_from : (item : Item) → ValidItem item → Satisfies item code → Asks item code
  asks_from (key_item base fill rotation) v s =
      let k = span_from base fill rotation s.1.0 s.1.1.0 in
      (k.0, (k.1, turn_from rotation s.1.1.1))
  asks_from (range_item from to) v s =
      let l : from ≤ 0x100 + b = rw (← p.base) at s.1.0 in
      let h : 0x100 + b ≤ to = rw (← p.base) at s.1.1 in
      (omega (arith, p.sum, p.few, p.least, v.0.0), (omega (arith, p.sum, p.few, p.least, v.1.0), inl refl))
  asks_from null_item v s = (omega arith, (omega arith, inl refl))

-- code 0 lies below every key and every range
null_means : (item : Item) → Asks item 0 ↔ Satisfies item 0
null_means (key_item base none rotation) = (λ a. absurd (omega (arith, a.0)), λ s. absurd (s.0 refl))
null_means (key_item base (some fill) rotation) = (λ a. absurd (omega (arith, a.0)), λ s. absurd (s.0 refl))
null_means (range_item from to) = (λ a. absurd (omega (arith, a.0)), λ s. absurd (s.0 refl))
null_means null_item = (λ a. refl, λ s. (omega arith, (omega arith, inl refl)))

pub item_means : (item : Item) (code : ℕ) → ValidItem item → Asks item code ↔ Satisfies item code
item_means item zero v = null_means item
item_means item (suc c) v =
    let z : suc c ≡ 0 → ⊥ = λ e. omega arith in
    let p = parts (suc c) z in
    (asks_to (suc c) _ _ _ p item v z, asks_from (suc c) _ _ _ p item v)

pub fits_item : (item : Item) (code : ℕ) → ValidItem item → fits_numbers (lowest item) (highest item) (turn item) code ≡ satisfies item code
fits_item item code v =
    let m = item_means item code v in
    alike (numbers_decide item code) (satisfies_decides item code) m.0 m.1
