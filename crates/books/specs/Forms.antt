-- The plain form of narrowing call on a book. `read` gives the refusal of a query or what it asks, `met` whether what a line says meets
-- that, and `valid` is the test of a list that 11 stands for.
use Rattle.std.specs.Prelude.{ℕ, ◌≡◌, List, Bool, true}
use Rattle.format.specs.Format.{All}
use Rattle.grammar.specs.Sign.{Meaning}
use Rattle.token.specs.Result.{Result, done, on_done}
use Rattle.narrowing.specs.Narrowing.{Narrowed, narrowed_by}
use Rattle.narrowing.specs.Form.{Form}
use Rattle.books.specs.Book.{Book, count_in, readable_in}

-- a query's refusal, or its test of an entry
abbrev pub asked : {Q A : Type 0} → (Q → Result A) → (A → Result Meaning → Bool) → Book → Q → Result (ℕ → Bool)
asked read met b q = on_done (λ a e. met a (b.sign e)) (read q)

-- a list that passes the test, of lines that are read, in a book that is not refused
pub record GoodBy (valid : ℕ → List ℕ → Bool) (b : Book) (k : List ℕ) : Type 0 where
  pub fine : count_in b ≡ done b.count
  pub passes : valid b.count k ≡ true
  pub reads : All (λ e. readable_in b e ≡ true) k

abbrev pub call_by : {Q A : Type 0} → (ℕ → List ℕ → Bool) → (Q → Result A) → (A → Result Meaning → Bool) → Book → List ℕ → ℕ → Q → Narrowed × List ℕ
call_by valid read met b list n q = narrowed_by (asked read met b q) (count_in b) valid (readable_in b) list n

abbrev pub form_by : {Q A : Type 0} → (ℕ → List ℕ → Bool) → (Q → Result A) → (A → Result Meaning → Bool) → Form Book Q
form_by valid read met = record { says = asked read met; fits = λ b q. true; Good = GoodBy valid; call = call_by valid read met }
