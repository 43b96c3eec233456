-- What a function that reads a format at an offset of a text has to tell.
use Rattle.std.specs.Prelude.{ℕ, ◌+◌, ◌-◌, List, eqb, ltb, length, drop}
use Rattle.format.specs.Format.{Answer, value, other, wrong, short, Format, choose}
use Rattle.format.specs.Places.{Outcome, fine, refused, ends_short}

-- a value and the offset after it; the offset of the first unit that is not allowed; or that the text ends too soon
pub data Located (A : Type 0) : Type 0 where
  found : A → ℕ → Located A
  wrong_at : ℕ → Located A
  short_here : Located A

abbrev pub located : {A : Type 0} → ℕ → ℕ → Answer A → Located A
located size at (value v rest) = found v (size - length rest)
located size at other = wrong_at at
located size at (wrong rest) = wrong_at (size - length rest)
located size at short = short_here

unfoldable pub locate : {A : Type 0} → Format A → List ℕ → ℕ → Located A
locate f s at = located (length s) at (f.read (drop at s))

-- what is found next, after what was found first
abbrev pub and_then : {A B : Type 0} → Located A → (A → ℕ → Located B) → Located B
and_then (found a i) k = k a i
and_then (wrong_at p) k = wrong_at p
and_then short_here k = short_here

abbrev pub on_found : {A B : Type 0} → (A → B) → Located A → Located B
on_found to (found a i) = found (to a) i
on_found to (wrong_at p) = wrong_at p
on_found to short_here = short_here

-- a format and then the end of a text of size bytes, which is read in units of w
abbrev pub ended : {A : Type 0} → ℕ → ℕ → Located A → Outcome A
ended w size (found v i) = choose (eqb i size) (fine v) (choose (ltb size (i + w)) ends_short (refused i))
ended w size (wrong_at p) = refused p
ended w size short_here = ends_short
