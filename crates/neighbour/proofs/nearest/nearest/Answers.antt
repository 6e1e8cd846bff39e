-- `nearest` meets its contract: a refusal that was drawn is handed on, and a plan that was drawn stands for the answer.
use Rattle.name.proofs.Answers.{fills_refusal}
use Rattle.neighbour.proofs.nearest.nearest.Goals as goal

pub write-requires : goal.write-requires
write-requires c = (rw c.in-Ok.is at c.draw-drawn.ensures).0

pub returns-in-Err : goal.returns-in-Err
returns-in-Err c = fills_refusal (rw c.in-Err.is at c.draw-drawn.ensures)

pub returns-in-Ok : goal.returns-in-Ok
returns-in-Ok c = rw (rw c.in-Ok.is at c.draw-drawn.ensures).1
    (rw c.greatest.ensures at c.write.ensures)
