-- What holds of the items of a text that is well-formed: they are valid, and so a range is known by its numbers to be reversed.
use Prim.Native.Nat.{ℕ, zero, suc, ◌+◌, ◌*◌, ◌/◌, ◌%◌, ◌≤◌, ◌<◌}
use mathlib.Core.Path.{◌≡◌, refl, sym, ◌∙◌}
use mathlib.Core.Bool.{Bool, true, false}
use mathlib.Core.Logic.{◌⊎◌, inl, inr}
use mathlib.Core.Option.{Option, none, some}
use lib.Dec.{ltb}
use native.Mathlib.Omega.{arith}
use borrow.Author.Tests.{lt-ltb, le-ltb, ltb-true, ltb-false}
use Rattle.format.specs.Format.{Any}
use Rattle.charset.specs.declared.Charset.TheVariants.{Fsw, Swu}
use Rattle.charset.specs.Tokens.{parts_of, last_code, last_punctuation}
use Rattle.querygrammar.specs.declared.Edition.{Edition}
use Rattle.querygrammar.specs.declared.Edition.TheVariants.{First, Second}
use Rattle.querygrammar.specs.Spelling.{Item, key_item, range_item, null_item, or_any, open_of, KeyText, key_tail, FswText, fsw_item, fsw_meaning, SwuText, swu_item, swu_meaning, unless, spelling}
use Rattle.querygrammar.specs.Query.{Base, ValidItem}
use Rattle.queryitem.specs.Numbers.{first_code, lowest, highest}
use Rattle.queryitem.specs.Pieces.{item_of, symbol}
use Rattle.querypart.specs.Spots.{reversed}

-- FSW

open_valid : (hi : ℕ) (v : ℕ ⊎ ℕ) → (or_any hi).Valid v → Any (λ d. d ≤ hi) (open_of v)
open_valid hi (inl d) ok = ok.1
open_valid hi (inr u) ok = tt

key_valid : (k : KeyText) → key_tail.Valid k → ValidItem (fsw_meaning (inl (inr k)))
key_valid k ok = (ok.0, (open_valid 5 k.1.0 ok.1.0, open_valid 15 k.1.1 ok.1.1))

fsw_valid : (null : Bool) (v : FswText) → (fsw_item (symbol null)).Valid v → ValidItem (fsw_meaning v)
fsw_valid null (inl (inl n)) ok = tt
fsw_valid true (inl (inr k)) ok = key_valid k ok
fsw_valid false (inl (inr k)) ok = key_valid k ok
fsw_valid null (inr p) ok = (ok.0, ok.1)

-- SWU

base_valid : (c : ℕ) → c ≤ last_code last_punctuation → Base (parts_of c).0
base_valid c h = (omega arith, omega arith)

unless_valid : (hi d : ℕ) (m : Option ℕ) → d ≤ hi → Any (λ d. d ≤ hi) (unless m d)
unless_valid hi d none h = h
unless_valid hi d (some b) h = tt

swu_valid : (least : ℕ) (v : SwuText) → (swu_item least).Valid v → ValidItem (swu_meaning v)
swu_valid least (inl (zero, m)) ok = tt
swu_valid least (inl (suc c, m)) ok =
    (base_valid (suc c) ok.0.1, (unless_valid 5 ((parts_of (suc c)).1 / 16) m.0 (omega arith), unless_valid 15 ((parts_of (suc c)).1 % 16) m.1 (omega arith)))
swu_valid least (inr p) ok = (base_valid p.0 ok.0.1, base_valid p.1 ok.1.1)

pub item_valid : (e : Edition) (boxed : Bool) (v : (spelling e).Says) → (item_of (spelling e) boxed).Valid v → ValidItem ((spelling e).means v)
item_valid First true v ok = fsw_valid false v ok
item_valid First false v ok = fsw_valid false v ok
item_valid (Second Fsw) true v ok = fsw_valid false v ok
item_valid (Second Fsw) false v ok = fsw_valid true v ok
item_valid (Second Swu) true v ok = swu_valid 1 v ok
item_valid (Second Swu) false v ok = swu_valid 0 v ok

-- A range is reversed exactly if its last code is below its first, and nothing else is.
pub item_order : (i : Item) → ValidItem i → ltb (highest i) (lowest i) ≡ reversed i
item_order (key_item b none r) ok = le-ltb (first_code b + 95) (first_code b) (omega arith)
item_order (key_item b (some f) r) ok = le-ltb (first_code b + f * 16 + 15) (first_code b + f * 16) (omega arith)
item_order (range_item a b) ok = go (ltb b a) refl
  where
    go : (t : Bool) → ltb b a ≡ t → ltb (first_code b + 95) (first_code a) ≡ ltb b a
    go true e = lt-ltb (first_code b + 95) (first_code a) (let h : b < a = ltb-true b a e in omega (arith, ok.0.0, ok.1.0)) ∙ sym e
    go false e = le-ltb (first_code b + 95) (first_code a) (let h : a ≤ b = ltb-false b a e in omega (arith, ok.0.0, ok.1.0)) ∙ sym e
item_order null_item ok = le-ltb 0 0 (omega arith)
