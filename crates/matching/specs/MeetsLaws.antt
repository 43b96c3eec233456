-- What is proved of the verdict.
use Rattle.std.specs.Prelude.{ℕ, zero, suc, ◌<◌, ◌≡◌, List, [], ◌∷◌, true, ◌↔◌}
use Rattle.format.specs.Format.{Pairwise}
use Rattle.grammar.specs.Sign.{Meaning}
use Rattle.querygrammar.specs.Query.{Query}
use Rattle.matching.specs.Meets.{Serves, Condition, Meets, Judgement, unmet, met, verdict_of, is_met}

-- element number n, counted from 1, is the first of which P holds
abbrev pub First : {A : Type 0} → (A → Type 0) → ℕ → List A → Type 0
First P zero l = ⊥
First P (suc n) [] = ⊥
First P (suc zero) (a ∷ l) = P a
First P (suc (suc n)) (a ∷ l) = (P a → ⊥) × First P (suc n) l

-- what a verdict has to say of a query and a sign
pub record Right (q : Query) (m : Meaning) (v : Judgement) : Type 0 where
  -- it says met exactly if the sign meets the query
  pub exactly : (is_met v ≡ true) ↔ Meets q m
  -- then each signbox item has its witness, the first symbol that serves it
  pub witnesses : (ws : List ℕ) → v ≡ met ws → Pairwise (λ sought w. First (Serves q.variance sought) w m.symbols) q.items ws
  -- otherwise the condition named does not hold, and all before it do
  pub first_unmet : (n : ℕ) → v ≡ unmet n → (Condition q m n → ⊥) × ((k : ℕ) → k < n → Condition q m k)

-- the verdict is right, and no other judgement is
pub record MeetsLaws (q : Query) (m : Meaning) : Type 0 where
  pub right : Right q m (verdict_of q m)
  pub only : (v : Judgement) → Right q m v → v ≡ verdict_of q m
