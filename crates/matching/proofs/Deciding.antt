-- Each test answers true exactly if the statement of its name holds.
use Prim.Native.Nat.{ℕ, ◌+◌, ◌≤◌}
use mathlib.Core.Path.{◌≡◌, refl, sym, ap, ◌∙◌}
use mathlib.Core.List.{List, [], ◌∷◌}
use mathlib.Core.Bool.{Bool, true, false, not, ◌&&◌, ◌||◌}
use mathlib.Core.Logic.{◌⊎◌, inl, inr, ⊎_elim}
use mathlib.Core.Option.{Option, none, some}
use lib.Dec.{leb, eqb}
use native.Mathlib.Omega.{arith}
use borrow.Author.Tests.{leb-true, le-leb, eqb-true, eq-eqb}
use Rattle.format.specs.Format.{choose}
use Rattle.grammar.specs.Sign.{Spatial}
use Rattle.querygrammar.specs.Spelling.{Item, key_item, range_item, null_item}
use Rattle.querygrammar.specs.Query.{Prefix, free, present, begins, Sought}
use Rattle.matching.specs.Meets.{Agrees, Satisfies, SatisfiesOne, Begins, PrefixHolds, Within, Near, Serves, base_of, fill_of, rotation_of, agrees, satisfies, satisfies_one, begins_by, prefix_holds, within, near, serves}

pub clash : {X : Type 0} {t : Bool} → t ≡ true → t ≡ false → X
clash p q = absurd (let z : ◌≡◌ {A = ℕ} 0 1 = ap (λ b. choose b 0 1) (sym p ∙ q) in omega arith)

pub record Decides (t : Bool) (P : Type 0) : Type 0 where
  pub sound : t ≡ true → P
  pub complete : P → t ≡ true

same : (s t : Bool) → (s ≡ true → t ≡ true) → (t ≡ true → s ≡ true) → s ≡ t
same true t f g = sym (f refl)
same false true f g = g refl
same false false f g = refl

-- tests of statements that follow from each other
pub alike : {s t : Bool} {P Q : Type 0} → Decides s P → Decides t Q → (P → Q) → (Q → P) → s ≡ t
alike {s} {t} d e f g = same s t (λ h. e.complete (f (d.sound h))) (λ h. d.complete (g (e.sound h)))

always : Decides true Unit
always = record { sound = λ e. tt; complete = λ u. refl }

never : Decides false ⊥
never = record { sound = λ e. clash e refl; complete = λ z. absurd z }

and_true : (s t : Bool) → s && t ≡ true → (s ≡ true) × (t ≡ true)
and_true true t e = (refl, e)
and_true false t e = clash e refl

pub both : {s t : Bool} {P Q : Type 0} → Decides s P → Decides t Q → Decides (s && t) (P × Q)
both {s} {t} d e = record {
  sound = λ h. let k = and_true s t h in (d.sound k.0, e.sound k.1);
  complete = λ p. rw (d.complete p.0) (e.complete p.1);
}

or_true : (s t : Bool) → s || t ≡ true → (s ≡ true) ⊎ (t ≡ true)
or_true true t e = inl refl
or_true false t e = inr e

true_or : (s t : Bool) → t ≡ true → s || t ≡ true
true_or true t e = refl
true_or false t e = e

pub either : {s t : Bool} {P Q : Type 0} → Decides s P → Decides t Q → Decides (s || t) (P ⊎ Q)
either {s} {t} {P} {Q} d e = record {
  sound = λ h. ⊎_elim (λ k. inl (d.sound k)) (λ k. inr (e.sound k)) (or_true s t h);
  complete = go;
}
  where
    go : P ⊎ Q → s || t ≡ true
    go (inl p) = rw (d.complete p)
    go (inr q) = true_or s t (e.complete q)

not_both : (t : Bool) → not t ≡ true → t ≡ true → ⊥
not_both true e h = clash e refl
not_both false e h = clash h refl

not_else : (t : Bool) → (t ≡ true → ⊥) → not t ≡ true
not_else true n = absurd (n refl)
not_else false n = refl

negated : {t : Bool} {P : Type 0} → Decides t P → Decides (not t) (P → ⊥)
negated {t} d = record { sound = λ e p. not_both t e (d.complete p); complete = λ n. not_else t (λ h. n (d.sound h)) }

pub equal : (a b : ℕ) → Decides (eqb a b) (a ≡ b)
equal a b = record { sound = eqb-true a b; complete = eq-eqb a b }

pub at_most : (a b : ℕ) → Decides (leb a b) (a ≤ b)
at_most a b = record { sound = leb-true a b; complete = le-leb a b }

-- AN ITEM AND A SYMBOL

agrees_decides : (given : Option ℕ) (digit : ℕ) → Decides (agrees given digit) (Agrees given digit)
agrees_decides none digit = always
agrees_decides (some given) digit = equal digit given

pub satisfies_decides : (item : Item) (code : ℕ) → Decides (satisfies item code) (Satisfies item code)
unfolding satisfies
satisfies_decides (key_item base fill rotation) code =
    both (negated (equal code 0)) (both (equal (base_of code) base) (both (agrees_decides fill (fill_of code)) (agrees_decides rotation (rotation_of code))))
satisfies_decides (range_item from to) code = both (negated (equal code 0)) (both (at_most from (base_of code)) (at_most (base_of code) to))
satisfies_decides null_item code = equal code 0

pub one_decides : (l : List Item) (code : ℕ) → Decides (satisfies_one l code) (SatisfiesOne l code)
unfolding satisfies_one
one_decides [] code = never
one_decides (item ∷ l) code = either (satisfies_decides item code) (one_decides l code)

-- THE CONDITIONS

begins_decides : (lists : List (List Item)) (codes : List ℕ) → Decides (begins_by satisfies_one lists codes) (Begins lists codes)
begins_decides [] codes = always
begins_decides (l ∷ lists) [] = never
begins_decides (l ∷ lists) (code ∷ codes) = both (one_decides l code) (begins_decides lists codes)

pub prefix_decides : (p : Prefix) (codes : List ℕ) → Decides (prefix_holds p codes) (PrefixHolds p codes)
unfolding prefix_holds
prefix_decides free codes = always
prefix_decides present [] = never
prefix_decides present (code ∷ codes) = always
prefix_decides (begins lists) codes = begins_decides lists codes

within_decides : (variance a b : ℕ) → Decides (within variance a b) (Within variance a b)
within_decides variance a b = both (at_most a (b + variance)) (at_most b (a + variance))

near_decides : (variance : ℕ) (o : Option (ℕ × ℕ)) (symbol : Spatial) → Decides (near variance o symbol) (Near variance o symbol)
near_decides variance none symbol = always
near_decides variance (some p) symbol = both (within_decides variance p.0 symbol.x) (within_decides variance p.1 symbol.y)

pub serves_decides : (variance : ℕ) (sought : Sought) (symbol : Spatial) → Decides (serves variance sought symbol) (Serves variance sought symbol)
unfolding serves
serves_decides variance sought symbol = both (one_decides sought.alternatives symbol.code) (near_decides variance sought.coordinate symbol)
