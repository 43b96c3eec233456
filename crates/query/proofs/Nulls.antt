-- Null is sought in the prefix of the second edition alone.
use Prim.Native.Nat.{ℕ, zero, suc, ◌/◌, ◌%◌}
use mathlib.Core.Path.{◌≡◌, refl}
use mathlib.Core.List.{List}
use mathlib.Core.Bool.{Bool, true, false, true≢false, not}
use mathlib.Core.Logic.{inl, inr}
use mathlib.Core.Option.{Option}
use native.Mathlib.Omega.{arith}
use Rattle.format.specs.Format.{All}
use Rattle.format.proofs.Lists.{all_weaker}
use Rattle.charset.specs.declared.Charset.TheVariants.{Fsw, Swu}
use Rattle.charset.specs.Tokens.{parts_of}
use Rattle.token.specs.Result.{done}
use Rattle.querygrammar.specs.declared.Edition.{Edition}
use Rattle.querygrammar.specs.declared.Edition.TheVariants.{First, Second}
use Rattle.querygrammar.specs.Spelling.{Item, key_item, range_item, null_item, FswText, SwuText, key_only, fsw_item, swu_item, fsw_meaning, swu_meaning, open_of, unless, spelling}
use Rattle.querygrammar.specs.Query.{Query, meaning, lists_of, sought_lists}
use Rattle.queryitem.specs.Pieces.{item_of}
use Rattle.query.specs.Reading.{query_of}
use Rattle.query.specs.ReadingLaws.{Other, NoNull, FirstWithoutNull}
use Rattle.query.proofs.Accepted.{query_read, prefix_holds, signbox_holds}

-- whether null may be sought: in the prefix of the second edition
abbrev has_null : Edition → Bool → Bool
has_null First boxed = false
has_null (Second set) boxed = not boxed

-- no item is null where none may be
abbrev Allowed : Edition → Bool → Item → Type 0
Allowed e boxed i = has_null e boxed ≡ false → i ≡ null_item → ⊥

key_other : (b : ℕ) (f r : Option ℕ) → key_item b f r ≡ null_item → ⊥
key_other b f r e = let z : ◌≡◌ {A = ℕ} 0 1 = cc in omega arith

range_other : (a b : ℕ) → range_item a b ≡ null_item → ⊥
range_other a b e = let z : ◌≡◌ {A = ℕ} 0 1 = cc in omega arith

fsw_other : (v : FswText) → (fsw_item key_only).Valid v → fsw_meaning v ≡ null_item → ⊥
fsw_other (inl (inl n)) ok = absurd ok
fsw_other (inl (inr k)) ok = key_other k.0 (open_of k.1.0) (open_of k.1.1)
fsw_other (inr r) ok = range_other r.0 r.1

swu_other : (v : SwuText) → (swu_item 1).Valid v → swu_meaning v ≡ null_item → ⊥
swu_other (inl (zero, m)) ok = absurd (omega (arith, ok.0.0))
swu_other (inl (suc c, m)) ok = key_other (parts_of (suc c)).0 (unless m.0 ((parts_of (suc c)).1 / 16)) (unless m.1 ((parts_of (suc c)).1 % 16))
swu_other (inr r) ok = range_other (parts_of r.0).0 (parts_of r.1).0

item_allowed : (e : Edition) (boxed : Bool) (v : (spelling e).Says) → (item_of (spelling e) boxed).Valid v → Allowed e boxed ((spelling e).means v)
item_allowed First true v ok h = fsw_other v ok
item_allowed First false v ok h = fsw_other v ok
item_allowed (Second Fsw) true v ok h = fsw_other v ok
item_allowed (Second Fsw) false v ok h = absurd (true≢false h)
item_allowed (Second Swu) true v ok h = swu_other v ok
item_allowed (Second Swu) false v ok h = absurd (true≢false h)

no_null_lem : (e : Edition) (boxed : Bool) → has_null e boxed ≡ false → (l : List (List Item)) → All (All (Allowed e boxed)) l → NoNull l
no_null_lem e boxed h l = all_weaker (All (Allowed e boxed)) (All Other) (λ a. all_weaker (Allowed e boxed) Other (λ i k. k h) a) l

boxed_null : (e : Edition) → has_null e true ≡ false
boxed_null First = refl
boxed_null (Second set) = refl

pub signbox_without_null : (e : Edition) (text : List ℕ) (q : Query) → query_of e text ≡ done q → NoNull (sought_lists q)
signbox_without_null e text q z =
    let k = query_read e text q z in
    rw (← k.same)
    (no_null_lem e true (boxed_null e) (sought_lists (meaning (spelling e).means k.says)) (signbox_holds e (Allowed e) (item_allowed e) k.says.1.0 k.valid.1.0))

pub first_without_null : FirstWithoutNull
first_without_null text q z =
    let k = query_read First text q z in
    rw (← k.same)
    (no_null_lem First false refl (lists_of (meaning (spelling First).means k.says).prefix) (prefix_holds First (Allowed First) (item_allowed First) k.says.0 k.valid.0))
