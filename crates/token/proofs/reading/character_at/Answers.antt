use Rattle.token.proofs.Units.{character_cut, character_below, character_above, character_within}
use Rattle.token.proofs.reading.character_at.Goals as goal
use Rattle.token.proofs.reading.character_at.Goals.{then-c-from-via-then-c-from, then-c-from-via-else-c-from+then-from-hi}

pub returns-then-s-at : goal.returns-then-s-at
returns-then-s-at c = character_cut _ _ _ _ _ c.if-s-at.true

pub returns-then-c-from : goal.returns-then-c-from
returns-then-c-from c = elim c.then-c-from.branch [
  | then-c-from-via-then-c-from w ↦ character_below _ _ _ _ _ _ c.if-s-at.false c.scalar-c.ensures w.if-c-from.true
  | then-c-from-via-else-c-from+then-from-hi w ↦
      character_above _ _ _ _ _ _ c.if-s-at.false c.scalar-c.ensures w.if-c-from.false w.if-from-hi.true
]

pub returns : goal.returns
returns c =
    character_within _ _ _ _ _ _ c.if-s-at.false c.scalar-c.ensures
    c.if-c-from.false c.if-from-hi.false
