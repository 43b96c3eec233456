-- Document 01, "A query", and document 02, Q-9: when a sign meets a query, and the verdict with its witnesses.
use Rattle.std.specs.Prelude.{Result as Answer, Ok, Err, ℕ, zero, suc, ◌+◌, ◌/◌, ◌%◌, ◌≤◌, ◌≡◌, List, [], ◌∷◌, map, Bool, true, false, not, ◌&&◌, ◌||◌, ◌⊎◌, leb, eqb}
use Rattle.std.proofs.Math.Option.{Option, none, some}
use Rattle.format.specs.Format.{choose}
use Rattle.charset.specs.Tokens.{parts_of}
use Rattle.grammar.specs.Sign.{Spatial, Meaning}
use Rattle.token.specs.declared.refusal.Refusal.{Refusal}
use Rattle.token.specs.Refusal.{number_of, place_of}
use Rattle.token.specs.Padded.{padded, zeros}
use Rattle.querygrammar.specs.Spelling.{Item, key_item, range_item, null_item}
use Rattle.querygrammar.specs.Query.{Prefix, free, present, begins, Sought, Query}
use Rattle.matching.specs.declared.Verdict.{Verdict as Told}
use Rattle.matching.specs.declared.Verdict.TheVariants.{Met, Unmet}

-- AN ITEM AND A SYMBOL

-- base, fill and rotation of a code from 1 on (document 01, "Symbols and numbers")
abbrev pub base_of : ℕ → ℕ
base_of code = (parts_of code).0

abbrev pub fill_of : ℕ → ℕ
fill_of code = (parts_of code).1 / 16

abbrev pub rotation_of : ℕ → ℕ
rotation_of code = (parts_of code).1 % 16

-- a digit of the symbol is the one given, where one is given
abbrev pub Agrees : Option ℕ → ℕ → Type 0
Agrees none digit = Unit
Agrees (some given) digit = digit ≡ given

-- the symbol fits the key, or its base lies in the range, ends included; null, which is code 0, satisfies the null item alone
abbrev pub Satisfies : Item → ℕ → Type 0
Satisfies (key_item base fill rotation) code = (code ≡ 0 → ⊥) × ((base_of code ≡ base) × (Agrees fill (fill_of code) × Agrees rotation (rotation_of code)))
Satisfies (range_item from to) code = (code ≡ 0 → ⊥) × ((from ≤ base_of code) × (base_of code ≤ to))
Satisfies null_item code = code ≡ 0

-- P holds of some element
abbrev pub Some : {A : Type 0} → (A → Type 0) → List A → Type 0
Some P [] = ⊥
Some P (a ∷ l) = P a ⊎ Some P l

-- an item with alternatives is satisfied if one of them is
abbrev pub SatisfiesOne : List Item → ℕ → Type 0
SatisfiesOne l code = Some (λ item. Satisfies item code) l

-- THE CONDITIONS

-- the first codes satisfy the items one by one; there may be more codes
abbrev pub Begins : List (List Item) → List ℕ → Type 0
Begins [] codes = Unit
Begins (l ∷ lists) [] = ⊥
Begins (l ∷ lists) (code ∷ codes) = SatisfiesOne l code × Begins lists codes

-- nothing is asked of the prefix, there is one, or it begins with the items
abbrev pub PrefixHolds : Prefix → List ℕ → Type 0
PrefixHolds free codes = Unit
PrefixHolds present [] = ⊥
PrefixHolds present (code ∷ codes) = Unit
PrefixHolds (begins lists) codes = Begins lists codes

-- two numbers differ by at most the variance
abbrev pub Within : ℕ → ℕ → ℕ → Type 0
Within variance a b = (a ≤ b + variance) × (b ≤ a + variance)

-- where a coordinate is given, the symbol differs from it by at most the variance on each axis
abbrev pub Near : ℕ → Option (ℕ × ℕ) → Spatial → Type 0
Near variance none symbol = Unit
Near variance (some p) symbol = Within variance p.0 symbol.x × Within variance p.1 symbol.y

abbrev pub Serves : ℕ → Sought → Spatial → Type 0
Serves variance sought symbol = SatisfiesOne sought.alternatives symbol.code × Near variance sought.coordinate symbol

-- P holds of element n, counted from 0, if there is one
abbrev pub Nth : {A : Type 0} → (A → Type 0) → ℕ → List A → Type 0
Nth P n [] = Unit
Nth P zero (a ∷ l) = P a
Nth P (suc n) (a ∷ l) = Nth P n l

-- Condition 0 is the prefix, conditions 1, 2, .. are the signbox items. One symbol may serve several items.
abbrev pub Condition : Query → Meaning → ℕ → Type 0
Condition q m zero = PrefixHolds q.prefix m.prefix
Condition q m (suc n) = Nth (λ sought. Some (Serves q.variance sought) m.symbols) n q.items

-- all the query's conditions hold
abbrev pub Meets : Query → Meaning → Type 0
Meets q m = (n : ℕ) → Condition q m n

-- THE VERDICT. Each test answers true exactly if the statement of its name holds; by MeetsLaws the conditions alone fix the verdict.

abbrev pub agrees : Option ℕ → ℕ → Bool
agrees none digit = true
agrees (some given) digit = eqb digit given

unfoldable pub satisfies : Item → ℕ → Bool
satisfies (key_item base fill rotation) code = not (eqb code 0) && (eqb (base_of code) base && (agrees fill (fill_of code) && agrees rotation (rotation_of code)))
satisfies (range_item from to) code = not (eqb code 0) && (leb from (base_of code) && leb (base_of code) to)
satisfies null_item code = eqb code 0

unfoldable pub satisfies_one : List Item → ℕ → Bool
satisfies_one [] code = false
satisfies_one (item ∷ l) code = satisfies item code || satisfies_one l code

-- over any test of an item and a code
abbrev pub begins_by : {A : Type 0} → (A → ℕ → Bool) → List A → List ℕ → Bool
begins_by test [] codes = true
begins_by test (item ∷ items) [] = false
begins_by test (item ∷ items) (code ∷ codes) = test item code && begins_by test items codes

unfoldable pub prefix_holds : Prefix → List ℕ → Bool
prefix_holds free codes = true
prefix_holds present [] = false
prefix_holds present (code ∷ codes) = true
prefix_holds (begins lists) codes = begins_by satisfies_one lists codes

abbrev pub within : ℕ → ℕ → ℕ → Bool
within variance a b = leb a (b + variance) && leb b (a + variance)

abbrev pub near : ℕ → Option (ℕ × ℕ) → Spatial → Bool
near variance none symbol = true
near variance (some p) symbol = within variance p.0 symbol.x && within variance p.1 symbol.y

unfoldable pub serves : ℕ → Sought → Spatial → Bool
serves variance sought symbol = satisfies_one sought.alternatives symbol.code && near variance sought.coordinate symbol

-- the number of the first that passes, where the first of all has number k; 0 if none does
abbrev pub first_from : {A : Type 0} → ℕ → (A → Bool) → List A → ℕ
first_from k test [] = 0
first_from k test (a ∷ l) = choose (test a) k (first_from (k + 1) test l)

-- the number of the first unmet condition, or for each signbox item the first fitting symbol, counted from 1
pub data Judgement : Type 0 where
  unmet : ℕ → Judgement
  met : List ℕ → Judgement

abbrev pub missing : ℕ → Bool
missing witness = eqb witness 0

unfoldable pub judged : List ℕ → Judgement
judged witnesses = choose (missing (first_from 1 missing witnesses)) (met witnesses) (unmet (first_from 1 missing witnesses))

unfoldable pub witnesses_of : Query → Meaning → List ℕ
witnesses_of q m = map (λ sought. first_from 1 (serves q.variance sought) m.symbols) q.items

unfoldable pub verdict_of : Query → Meaning → Judgement
verdict_of q m = choose (prefix_holds q.prefix m.prefix) (judged (witnesses_of q m)) (unmet 0)

abbrev pub is_met : Judgement → Bool
is_met (unmet n) = false
is_met (met witnesses) = true

-- as it is returned: unused witness places are 0
abbrev pub told : Judgement → Told
told (unmet n) = Unmet n
told (met witnesses) = Met (padded 32 witnesses)

-- the verdict as numbers; all witness places are 0 when a condition is unmet
pub record Verdict : Type 0 where
  pub number : ℕ
  pub place : ℕ
  pub met : Bool
  pub unmet : ℕ
  pub witnesses : List ℕ

abbrev pub answered : Judgement → Verdict
answered (unmet n) = record { number = 0; place = 0; met = false; unmet = n; witnesses = zeros 32 }
answered (met witnesses) = record { number = 0; place = 0; met = true; unmet = 0; witnesses = padded 32 witnesses }

-- and by what a function answers: not met, and zeros but for number and place, where it refuses
abbrev pub as_verdict : Answer Told Refusal → Verdict
as_verdict (Ok (Unmet n)) = record { number = 0; place = 0; met = false; unmet = n; witnesses = zeros 32 }
as_verdict (Ok (Met witnesses)) = record { number = 0; place = 0; met = true; unmet = 0; witnesses = witnesses }
as_verdict (Err e) = record { number = number_of e; place = place_of e; met = false; unmet = 0; witnesses = zeros 32 }
