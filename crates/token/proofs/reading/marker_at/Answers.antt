use Rattle.token.proofs.reading.marker_at.Goals as goal

pub returns-in-Fsw : goal.returns-in-Fsw
returns-in-Fsw c = rw c.in-Fsw.is c.digit_at.ensures

pub returns-in-Swu : goal.returns-in-Swu
returns-in-Swu c = rw c.in-Swu.is c.character_at.ensures
