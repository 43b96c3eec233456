-- A wrong coordinate number in FSW, and that its first byte is where it is told.
use Prim.Native.Nat.{ℕ, suc, ◌+◌, ◌/◌, ◌%◌, ◌<◌}
use mathlib.Core.List.{List, [], ◌∷◌, ◌++◌, append-nil}
use mathlib.Core.Path.{◌≡◌, refl, sym, ap, ◌∙◌}
use mathlib.Core.Logic.{inl, inr}
use lib.ListN.{length}
use native.Mathlib.Omega.{arith}
use borrow.Author.Tests.{lt-ltb}
use Rattle.format.specs.Format.{Answer, value, other, wrong, short, atomic, at_start}
use Rattle.format.specs.Numeral.{Range}
use Rattle.format.specs.Numbers.{Here}
use Rattle.format.proofs.Exact.{Bad}
use Rattle.format.proofs.Delimited.{value_wrong}
use Rattle.format.proofs.Numbered.{unbegun, Calls, Like, same, moved, Numbered}
use Rattle.format.proofs.NumberPlaces.{Before, before_led}
use Rattle.format.proofs.Lists.{cons_head, cons_tail}
use Rattle.charset.specs.Bytes.{digit_byte}
use Rattle.charset.specs.Tokens.{fsw_number}
use Rattle.charset.proofs.Keys.{number_strict}

decimal : (d b : ℕ) → d < 10 → digit_byte d ≡ b → Range 48 57 b
decimal d b h e = let z : digit_byte d ≡ 48 + d = rw (lt-ltb d 10 h) in (omega (arith, e, z), omega (arith, e, z))

-- a part of a number, but not all of it
front_go : (n : ℕ) → Range 250 749 n → (start rest front more : List ℕ) → start ≡ front ++ rest → length rest < length start → fsw_number.write n ≡ front ++ more
    → (more ≡ [] → ⊥) → Before start rest
front_go n ok start rest [] more s k e z = absurd (omega (arith, ap length s))
front_go n ok start rest (a ∷ []) more s k e z =
    record { here = a ∷ []; is = s; size = inl refl; digits = (decimal (n / 100) a (omega (arith, ok.1)) (cons_head e), tt) }
front_go n ok start rest (a ∷ b ∷ []) more s k e z = record {
  here = a ∷ b ∷ [];
  is = s;
  size = inr refl;
  digits = (decimal (n / 100) a (omega (arith, ok.1)) (cons_head e), (decimal (n % 100 / 10) b (omega arith) (cons_head (cons_tail e)), tt));
}
front_go n ok start rest (a ∷ b ∷ c ∷ []) more s k e z = absurd (z (sym (cons_tail (cons_tail (cons_tail e)))))
front_go n ok start rest (a ∷ b ∷ c ∷ d ∷ front) more s k e z =
    absurd (let y : ◌≡◌ {A = ℕ} 0 (suc (length (front ++ more))) = ap length (cons_tail (cons_tail (cons_tail e))) in omega arith)

-- one or two digits before what is wrong
pub before : (start rest : List ℕ) → fsw_number.read start ≡ wrong rest → Before start rest
before start rest e =
    let l = number_strict.exact in
    let d = number_strict.delimited in
    let b : Bad 1 fsw_number start rest = rw e at (l.fails start) in
    let g = b.begins in
    front_go g.says g.valid start rest b.front g.more b.splits (d.firm start rest e) g.is
    λ z.
    let w : b.front ≡ fsw_number.write g.says = sym (append-nil b.front) ∙ ap (λ k. b.front ++ k) (sym z) ∙ sym g.is in
    value_wrong (sym (l.lawful.reads g.says rest g.valid (d.free g.says rest g.valid)) ∙ ap fsw_number.read (sym (b.splits ∙ ap (λ k. k ++ rest) w)) ∙ e)

-- THE NUMBER ITSELF stands at its own start

number_calls : (x : List ℕ) → Here x → Calls fsw_number fsw_number (atomic fsw_number).read x
number_calls x z = rw z
    (record {
      begins = λ n ok. record { says = n; valid = ok; more = []; is = sym (append-nil (fsw_number.write n)) };
      wrongs = λ start rest h e. e;
      others = λ start h e. unbegun refl e;
      late = λ start rest h e. unbegun refl (ap at_start e);
    })

number_like : (text : List ℕ) (r : Answer ℕ) → fsw_number.read text ≡ r → Like fsw_number Here fsw_number (atomic fsw_number).read text
number_like text (value n rest) e = same (ap at_start e ∙ sym e)
number_like text other e = same (ap at_start e ∙ sym e)
number_like text (wrong rest) e = moved [] text rest refl refl (before_led text rest (before text rest e)) e
number_like text short e = same (ap at_start e ∙ sym e)

pub number_numbered : Numbered fsw_number Here fsw_number (atomic fsw_number).read
number_numbered = record { calls = number_calls; like = λ text. number_like text (fsw_number.read text) refl }
