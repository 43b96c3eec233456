-- What a function that writes at an offset of lent memory does.
use Rattle.std.specs.Prelude.{ℕ, ◌+◌, ◌≤◌, ◌≡◌, List, ◌++◌, length, take, drop}

-- The memory o became p: the text was put at a, up to r, and nothing from r on changed.
pub record Wrote (o p : List ℕ) (a r : ℕ) (text : List ℕ) : Type 0 where
  pub next : r ≡ a + length text
  pub room : r ≤ length o
  pub same : length p ≡ length o
  pub front : take r p ≡ take a o ++ text
  pub rest : drop r p ≡ drop r o
