use Rattle.part.proofs.quick.symbol.Goals as goal

pub returns-in-Fsw : goal.returns-in-Fsw
returns-in-Fsw c = rw c.in-Fsw.is c.symbol.ensures

pub returns-in-Swu : goal.returns-in-Swu
returns-in-Swu c = rw c.in-Swu.is c.symbol-in-Swu.ensures
