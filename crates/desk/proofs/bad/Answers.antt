-- `desk::bad` meets its contract.
-- Assumes nothing.
use Rattle.desk.proofs.Turns.{as_turned}
use Rattle.desk.proofs.bad.Goals as goal
use Rattle.desk.specs.Line.{Answered}

pub returns : goal.returns
returns c = λ store. as_turned c.turned.ensures Answered.bad c.put_bad-length.ensures
