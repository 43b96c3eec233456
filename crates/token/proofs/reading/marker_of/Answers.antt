-- Each of the last four tests sets the marker or keeps it.
use mathlib.Core.Logic.{inl, inr}
use mathlib.Core.Path.{refl}
use borrow.Author.Tests.{eq-eqb}
use Rattle.charset.specs.Bytes.{marker_of}
use Rattle.token.proofs.Choices.{passed_over, set_or_kept}
use Rattle.token.proofs.reading.marker_of.Goals as goal
use Rattle.token.proofs.reading.marker_of.Goals.{then-b-eq82, else-b-eq82, then-b-eq77, else-b-eq77, then-b-eq76, else-b-eq76, then-b-eq66, else-b-eq66}

pub returns-then-b-eq65 : goal.returns-then-b-eq65
unfolding marker_of
returns-then-b-eq65 c = rw (eq-eqb _ 65 c.if-b-eq65.true)

pub returns-else-b-eq65 : goal.returns-else-b-eq65
unfolding marker_of
returns-else-b-eq65 c =
    passed_over _ 65 _ _ _ c.if-b-eq65.false
    (set_or_kept _ 66 _ (elim c.if-b-eq66.branch [ then-b-eq66 w ↦ inl (w.if-b-eq66.true, w.m-is) | else-b-eq66 w ↦ inr (w.if-b-eq66.false, w.m-is) ]) (λ t. t) (λ t. t)
    (set_or_kept _ 76 _ (elim c.if-b-eq76.branch [ then-b-eq76 w ↦ inl (w.if-b-eq76.true, w.m-is) | else-b-eq76 w ↦ inr (w.if-b-eq76.false, w.m-is) ]) (λ t. t) (λ t. t)
    (set_or_kept _ 77 _ (elim c.if-b-eq77.branch [ then-b-eq77 w ↦ inl (w.if-b-eq77.true, w.m-is) | else-b-eq77 w ↦ inr (w.if-b-eq77.false, w.m-is) ]) (λ t. t) (λ t. t)
    (set_or_kept _ 82 _ (elim c.if-b-eq82.branch [ then-b-eq82 w ↦ inl (w.if-b-eq82.true, w.m-is) | else-b-eq82 w ↦ inr (w.if-b-eq82.false, w.m-is) ]) (λ t. t) (λ t. t)
    refl))))
