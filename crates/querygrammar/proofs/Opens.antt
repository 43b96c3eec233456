-- What the kit of formats lacks: nothing written, and a choice of open formats.
use Prim.Native.Nat.{ℕ, ◌≤◌, ◌<◌}
use mathlib.Core.List.{List, []}
use mathlib.Core.Path.{◌≡◌, refl, sym, ap, ◌∙◌}
use mathlib.Core.Logic.{◌⊎◌, inl, inr}
use lib.ListN.{length}
use Rattle.format.specs.Format.{Answer, value, other, wrong, short, Format, either, or_else}
use Rattle.format.proofs.Lawful.{Lawful}
use Rattle.format.proofs.Parts.{either_lawful, whole_nil}
use Rattle.format.proofs.Exact.{Exact}
use Rattle.format.proofs.Delimited.{Firm, value_wrong, other_wrong, short_wrong, same_rest}
use Rattle.format.proofs.Open.{Open}
use Rattle.querygrammar.specs.Spelling.{nothing}

module _ {A : Type 0} (a : A) where
  pub nothing_lawful : (w : ℕ) → Lawful w (nothing a)
  nothing_lawful w = record { whole = λ v ok. whole_nil w; reads = λ v rest ok p. ap (λ b. value b rest) (sym ok); says = λ text. (refl, refl, tt) }

  pub nothing_exact : (w : ℕ) → 1 ≤ w → Exact w (nothing a)
  nothing_exact w k = record {
    lawful = nothing_lawful w;
    wide = k;
    some = record { says = a; valid = refl; more = []; is = refl };
    keeps = λ v x t u ok h p. tt;
    fails = λ text. tt;
  }

  pub nothing_firm : Firm (nothing a)
  nothing_firm text rest e = value_wrong e

pub either_other : {A B : Type 0} (f : Format A) (g : Format B) (text : List ℕ) → f.read text ≡ other → g.read text ≡ other → (either f g).read text ≡ other
either_other f g text p q = ap (λ r. or_else r (g.read text)) p ∙ ap (or_else other) q

module _ {A B : Type 0} (w : ℕ) (f : Format A) (g : Format B) (o : Open w f) (p : Open w g) where
  firm_go : (text rest : List ℕ) (r : Answer A) (q : Answer B) → f.read text ≡ r → g.read text ≡ q → or_else r q ≡ wrong rest → length rest < length text
  firm_go text rest (value a left) q x y e = value_wrong e
  firm_go text rest other (value b left) x y e = value_wrong e
  firm_go text rest other other x y e = other_wrong e
  firm_go text rest other (wrong left) x y e = p.firm text rest (y ∙ ap wrong (same_rest e))
  firm_go text rest other short x y e = short_wrong e
  firm_go text rest (wrong left) q x y e = o.firm text rest (x ∙ ap wrong (same_rest e))
  firm_go text rest short q x y e = short_wrong e

  either_solid : (v : A ⊎ B) → (either f g).Valid v → 1 ≤ length ((either f g).write v)
  either_solid (inl a) ok = o.solid a ok
  either_solid (inr b) ok = p.solid b ok

  pub either_open : Open w (either f g)
  either_open = record {
    lawful = either_lawful w f g o.lawful p.lawful;
    solid = either_solid;
    empty = ap (λ r. or_else r (g.read [])) o.empty;
    firm = λ text rest e. firm_go text rest (f.read text) (g.read text) refl refl e;
  }
