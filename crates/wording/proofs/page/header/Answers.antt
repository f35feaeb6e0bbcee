-- `wording::page::header` meets its contract.
-- Assumes nothing.
use Rattle.wording.proofs.PageLaws.{alone}
use Rattle.wording.proofs.page.header.Goals as goal
use Rattle.wording.specs.Page.{header, cell}
use native.Mathlib.Omega.{arith}

pub returns : goal.returns
unfolding header cell
returns c = rw (c.say.ensures, c.new.ensures) (alone header (omega arith))
