use Rattle.std.proofs.Common.{◌≡◌, ℕ, List, Option, length, take, refl, subst, rules}
use Rattle.input.specs.Reads.{IsFirst}
use Rattle.input.proofs.answer_by.Goals as goal

-- the memory that was read into has room for 50,178
first_read : (known : Option (List ℕ)) (n : ℕ) (buf : List ℕ) → length buf ≡ 50178 → IsFirst known (length buf) (take n buf)
    → IsFirst known 50178 (take n buf)
first_read known n buf long first = subst (λ room. IsFirst known room (take n buf)) long first

pub returns-then-is_err : goal.returns-then-is_err
returns-then-is_err g c =
    let first = first_read _ c.in-Ok.n c.read_input.new.buf (search rules) c.in-Ok.ensures.first in
    record { text = _; out = _; n = _; after = _; called = c.report-k.ensures; first = search (rules, first); zeros = refl }

pub returns : goal.returns
returns g c =
    let first = first_read _ c.in-Ok.n c.read_input.new.buf (search rules) c.in-Ok.ensures.first in
    (record { text = _; out = _; n = _; after = _; called = c.report-k.ensures; first = search (rules, first); zeros = refl }, search rules)
