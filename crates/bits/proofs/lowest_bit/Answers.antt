-- `bits::lowest_bit` meets its contract: the zeros below the lowest bit that is on are as many as its number.
-- Assumes nothing.
use Rattle.bits.proofs.Words.{trailing_lowest}
use Rattle.bits.proofs.lowest_bit.Goals as goal
use Rattle.bits.specs.Word.{width}

pub returns : goal.returns
returns c = trailing_lowest width c.args.w
