-- The styling of a text, in a draft: one law for each return that reads one.
use Prim.Native.Nat.{ℕ, ◌≤◌}
use mathlib.Core.List.{List}
use mathlib.Core.Path.{◌≡◌, sym, ap, ◌∙◌}
use lib.ListN.{length, drop}
use Rattle.std.specs.Prelude.{Result as Answer, Err}
use Rattle.format.specs.Places.{fine, reading}
use Rattle.charset.specs.declared.Charset.{Charset}
use Rattle.grammar.specs.declared.Head.{Head}
use Rattle.grammar.specs.declared.Symbols.{Symbols}
use Rattle.grammar.specs.Sign.{Meaning}
use Rattle.token.specs.declared.refusal.Refusal.{Refusal}
use Rattle.token.specs.Refusal.{number_of, place_of}
use Rattle.token.specs.Result.{done, on_done, of_outcome}
use Rattle.token.proofs.Checks.{refusal_done}
use Rattle.reader.specs.Inner.{head_of}
use Rattle.stylinggrammar.specs.Styling.{Spelling, styling}
use Rattle.stylinggrammar.specs.Styled.{dash_at}
use Rattle.stylingreader.specs.Reading.{styling_from}
use Rattle.styling.specs.Inner.{StyledInto, StylingAfter, DraftInto}
use Rattle.styling.proofs.Offsets.{shifted, from_start, from_offset}
use Rattle.styling.proofs.Splits.{Split, styled_split, split_string}
use Rattle.styling.proofs.Laws.{written_string}

-- the styling of a text that was split
string_fine : (set : Charset) (s : List ℕ) (m : Meaning) (t : Spelling) → Split set s m t → reading 1 styling (drop (dash_at s) s) ≡ fine t
string_fine set s m t k = ap (reading 1 styling) (split_string set s m t k) ∙ written_string t k.valid

pub string_from : (set : Charset) (s : List ℕ) (m : Meaning) (t : Spelling) → Split set s m t → styling_from (drop (dash_at s) s) 0 ≡ done t
string_from set s m t k = from_start (drop (dash_at s) s) ∙ ap (of_outcome (length (drop (dash_at s) s))) (string_fine set s m t k)

module _ (set : Charset) (s o p : List ℕ) where
  -- it stands from the dash on
  pub dashed_draft : (at : ℕ) (h : Head) (r : Answer (Head × ℕ) Refusal) → dash_at s ≡ at → at ≤ length s → StylingAfter s at h r o p → DraftInto set s o p
  dashed_draft at h r e l v = record {
    is = λ k q. v.puts k.1
        (from_offset s at l ∙ ap (λ o. of_outcome (length s) (shifted at o))
        (ap (λ i. reading 1 styling (drop i s)) (sym e) ∙ string_fine set s k.0 k.1 (styled_split set s k q)));
  }

  -- in a text that is refused there is none
  pub refused_draft : (e : Refusal) (symbols : Symbols) → StyledInto set s (Err e) symbols → DraftInto set s o p
  refused_draft e symbols v = record { is = λ k q. refusal_done (number_of e) (place_of e) (v.is ∙ ap (on_done (λ p. (head_of p.0, dash_at s))) q) }
