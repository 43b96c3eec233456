-- Open formats: what a delimited format has, but for what may follow it, as an item with an optional coordinate.
use Prim.Native.Nat.{ℕ, zero, suc, ◌≤◌, ◌<◌}
use mathlib.Core.List.{List, [], ◌∷◌}
use mathlib.Core.Path.{◌≡◌, refl, sym, ap, ◌∙◌}
use lib.ListN.{length, length-append}
use native.Mathlib.Omega.{arith}
use Rattle.format.specs.Format.{Answer, value, other, wrong, short, Format, first, second, sequence, maybe, many}
use Rattle.format.proofs.Lawful.{Lawful, Says}
use Rattle.format.proofs.Sequence.{sequence_lawful}
use Rattle.format.proofs.Many.{step, shrinks}
use Rattle.format.proofs.Delimited.{Firm, Delimited, solid, second_firm, sequence_firm, value_wrong, short_wrong, same_rest}

pub record Open (w : ℕ) {A : Type 0} (f : Format A) : Type 0 where
  pub lawful : Lawful w f
  pub solid : (v : A) → f.Valid v → 1 ≤ length (f.write v)
  pub empty : f.read [] ≡ short
  pub firm : Firm f

pub delimited_open : {A : Type 0} (w : ℕ) (f : Format A) → Delimited w f → Open w f
delimited_open w f d = record { lawful = d.lawful; solid = solid w f d; empty = d.empty; firm = d.firm }

-- where another format's unit stands, there is one
pub nonempty : {A : Type 0} (w : ℕ) (f : Format A) → Open w f → (text : List ℕ) → f.read text ≡ other → 1 ≤ length text
nonempty w f o [] e = absurd (let x = sym o.empty ∙ e in let z : ◌≡◌ {A = ℕ} 0 1 = cc in omega arith)
nonempty w f o (b ∷ text) e = omega arith

pub sequence_open : {A B : Type 0} (w : ℕ) (f : Format A) (g : A → Format B) → Open w f → ((a : A) → f.Valid a → Firm (g a))
    → ((a : A) → f.Valid a → Lawful w (g a)) → Open w (sequence f g)
sequence_open w f g d firm l = record {
  lawful = sequence_lawful w f g d.lawful l;
  solid = λ v ok. omega (arith, length-append (f.write v.0) ((g v.0).write v.1), d.solid v.0 ok.0);
  empty = ap (λ r. first r λ a rest. second (λ b. (a, b)) rest ((g a).read rest)) d.empty;
  firm = sequence_firm w f g d.lawful d.solid d.firm firm;
}

-- zero or more
module _ {A : Type 0} (w : ℕ) (f : Format A) (d : Open w f) where
  many_go : (text rest : List ℕ) (r : Answer A) → f.read text ≡ r → Says f text r
      → ((left : List ℕ) → length left < length text → (y : List ℕ) → (many f).read left ≡ wrong y → length y < length left)
      → maybe [] text r (λ a left. second (λ l. a ∷ l) left ((many f).read left)) ≡ wrong rest → length rest < length text
  many_go text rest (value a left) q s ih e =
      let k : length left < length text = shrinks w f d.lawful d.solid text a left s in
      omega (arith, second_firm (λ l. a ∷ l) left rest ((many f).read left) (ih left k) e, k)
  many_go text rest other q s ih e = value_wrong e
  many_go text rest (wrong left) q s ih e = let z : left ≡ rest = same_rest e in omega (arith, ap length z, d.firm text left q)
  many_go [] rest short q s ih e = value_wrong e
  many_go (b ∷ text) rest short q s ih e = short_wrong e

  many_upto : (n : ℕ) (text rest : List ℕ) → length text < n → (many f).read text ≡ wrong rest → length rest < length text
  many_upto zero text rest k e = absurd (omega arith)
  many_upto (suc n) text rest k e =
      many_go text rest (f.read text) refl (d.lawful.says text) (λ left h y z. many_upto n left y (omega arith) z) (sym (step w f d.lawful d.solid text) ∙ e)

  pub many_firm : Firm (many f)
  many_firm text rest e = many_upto (suc (length text)) text rest (omega arith) e
