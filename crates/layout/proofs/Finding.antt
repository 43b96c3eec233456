-- Where a line lies.
use Prim.Native.Nat.{ℕ, ◌-◌}
use mathlib.Core.Path.{◌≡◌, sym, ap, ◌∙◌}
use mathlib.Core.List.{List, [], ◌∷◌}
use lib.ListN.{length, drop, length-drop}
use lib.Seq.{length-take-le}
use native.Mathlib.Omega.{arith}
use Rattle.lines.specs.Lines.{line_of, line_start}
use Rattle.lines.proofs.Starts.{Line}
use Rattle.layout.specs.Dictionaries.{line_numbers}

pub line_told : (which : ℕ) (d : List ℕ) (k a e : ℕ) → a ≡ line_start d k → Line d k a e → (0 ∷ which ∷ a ∷ (e - a) ∷ []) ≡ line_numbers which d k
line_told which d k a e s l =
    let high = l.high in
    let size : e - a ≡ length (line_of d k) =
    sym (length-take-le (e - a) (drop a d) (omega (arith, length-drop a d))) ∙ ap length l.part in
    λ i. 0 ∷ which ∷ s i ∷ size i ∷ []
