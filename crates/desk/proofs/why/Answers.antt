-- `desk::why` meets its contract.
-- Assumes nothing.
use Rattle.desk.proofs.Turns.{as_turned}
use Rattle.desk.proofs.why.Goals as goal
use Rattle.desk.specs.Line.{Answered}

pub returns-in_default : goal.returns-in_default
returns-in_default c =
    let w = c.why-w in
    λ store. as_turned c.turned.ensures (Answered.asked w.result w.ensures) (rw c.in_default.is c.put_line-length.ensures)

pub returns : goal.returns
returns c =
    let w = c.why-w in
    λ store. as_turned c.turned-2.ensures (Answered.asked w.result w.ensures) (rw c.in-Some.is c.put_reason_line-length.ensures)
