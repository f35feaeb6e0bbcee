-- `desk::start` meets its contract.
-- Assumes nothing.
use Rattle.desk.proofs.Turns.{begun, too_late}
use Rattle.desk.proofs.start.Goals as goal

pub returns-then-d : goal.returns-then-d
returns-then-d c = λ store. begun _ c.if-d.true c.fresh_start-done.ensures c.tell.ensures

pub returns : goal.returns
returns c = λ store. too_late c.if-d.false (c.bad.ensures store)
