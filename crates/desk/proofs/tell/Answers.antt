-- `desk::tell` meets its contract.
-- Assumes nothing.
use Rattle.desk.proofs.Turns.{as_told}
use Rattle.desk.proofs.tell.Goals as goal

pub returns : goal.returns
returns c = as_told c.turned.ensures c.put_line-length.ensures
