-- A fixed byte after a format, and an optional part after a fixed byte.
use Prim.Native.Nat.{ℕ}
use mathlib.Core.List.{List, ◌∷◌, ◌++◌}
use mathlib.Core.Path.{◌≡◌, refl, ap}
use mathlib.Core.Option.{Option, none, some}
use native.Mathlib.Omega.{arith}
use Rattle.format.specs.Format.{value, Format, first, sequence, optional}
use Rattle.format.proofs.Parts.{Inverse, mapped_lawful}
use Rattle.format.proofs.Exact.{Exact}
use Rattle.format.proofs.ExactParts.{sequence_exact, mapped_exact}
use Rattle.format.proofs.Delimited.{Delimited, mapped_wrong}
use Rattle.format.proofs.Open.{Open, sequence_open}
use Rattle.charset.specs.Bytes.{byte, after}
use Rattle.charset.proofs.Coding.{byte_exact}
use Rattle.charset.proofs.Units.{byte_delimited}
use Rattle.charset.proofs.FixedByte.{Not, after_absent}
use Rattle.stylinggrammar.specs.Styling.{before}

-- a format, and then a fixed byte
module _ {A : Type 0} (b : ℕ) (f : Format A) where
  pub before_inverse : Inverse (sequence f λ a. byte b) (λ p. p.0) (λ v. (v, b)) f.Valid
  before_inverse = record {
    good = λ p ok. ok.0;
    back = λ p ok. let e : b ≡ p.1 = omega (arith, ok.1.0, ok.1.1) in λ i. (p.0, e i);
    sound = λ v ok. (ok, (omega arith, omega arith));
    forth = λ v ok. refl;
  }

  pub before_exact : Exact 1 f → Exact 1 (before b f)
  before_exact l =
      mapped_exact 1 (sequence f λ a. byte b) (λ p. p.0) (λ v. (v, b)) f.Valid (sequence_exact 1 f (λ a. byte b) l λ a ok. byte_exact b) before_inverse

  -- the byte ends what it stands after
  pub before_delimited : Open 1 f → ((v : A) (rest : List ℕ) → f.Valid v → f.Follow v (b ∷ rest)) → Delimited 1 (before b f)
  before_delimited d ends =
      let o = sequence_open 1 f (λ a. byte b) d (λ a ok. (byte_delimited b).firm) λ a ok. (byte_delimited b).lawful in
      record {
        lawful = mapped_lawful 1 (sequence f λ a. byte b) (λ p. p.0) (λ v. (v, b)) f.Valid o.lawful before_inverse;
        free = λ v rest ok. (tt, ends v rest ok);
        empty = ap (λ r. first r λ p rest. value p.0 rest) o.empty;
        firm = λ text rest e. o.firm text rest (mapped_wrong (λ p. p.0) rest ((sequence f (λ a. byte b)).read text) e);
      }

-- an optional part after its letter
pub part_follow : {A : Type 0} (b : ℕ) (f : Format A) (v : Option A) (rest : List ℕ) → (optional (after b f)).Valid v → Not b rest
    → ((a : A) → f.Valid a → f.Follow a rest) → (optional (after b f)).Follow v rest
part_follow b f none rest ok n k = after_absent b f rest n
part_follow b f (some a) rest ok n k = (k a ok, tt)

pub part_not : {A : Type 0} (b c : ℕ) (f : Format A) (v : Option A) (rest : List ℕ) → (b ≡ c → ⊥) → Not c rest → Not c ((optional (after b f)).write v ++ rest)
part_not b c f none rest n k = k
part_not b c f (some a) rest n k = n
