-- `wording::row::Phrase+LINE::say_number_cell` meets its contract.
-- Assumes nothing.
use Rattle.answers.proofs.TextLaws.{byte_short}
use Rattle.answers.specs.Answer.{decimal}
use Rattle.wording.proofs.PageLaws.{alone}
use Rattle.wording.proofs.row.Phrase+LINE.say_number_cell.Goals as goal
use native.Mathlib.Omega.{arith}

pub returns : goal.returns
returns c =
    rw (c.say_cell.ensures, c.say_number.ensures, c.new.ensures, alone (decimal c.args.n) (omega (arith, byte_short c.args.n c.ranges.n.fits)))
