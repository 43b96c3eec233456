-- What a record holds, as the functions that read it answer, and the styling that it means.
use Rattle.std.specs.Prelude.{Option as Given, Some, None, ℕ, ◌%◌, List, map}
use Rattle.std.proofs.Math.Option.{Option, none, some}
use Rattle.stylinggrammar.specs.Styling.{Detail as Colours}
use Rattle.stylinggrammar.specs.Meaning.{Style as Styled, coloured, zoomed}
use Rattle.stylingwriter.specs.declared.parts.Colour.{Colour}
use Rattle.stylingwriter.specs.declared.parts.Detail.{Detail}
use Rattle.stylingwriter.specs.declared.parts.Style.{Style}
use Rattle.stylingwriter.specs.declared.parts.Style.TheVariants.{Coloured, Zoomed}

-- what may be absent
abbrev pub given_as : {A B : Type 0} → (A → B) → Given A → Option B
given_as f None = none
given_as f (Some a) = some (f a)

abbrev pub colour_of : Colour → List ℕ
colour_of c = map (λ b. b % 256) c.letters.now

abbrev pub detail_of : Detail → Colours
detail_of d = (colour_of d.line, given_as colour_of d.fill)

abbrev pub style_of : Style → Styled
style_of (Coloured n d) = coloured n.value (detail_of d)
style_of (Zoomed n z) = zoomed n.value z.hundredths
