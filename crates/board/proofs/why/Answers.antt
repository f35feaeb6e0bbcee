-- `board::why` meets its contract. Assumes nothing.
use Rattle.board.proofs.Calls.{asked}
use Rattle.board.proofs.why.Goals as goal
use Rattle.image.proofs.Types.{sized}

pub returns : goal.returns
returns c = let image = c.read in asked (sized _ _ image.type_inv) image.ensures c.why.ensures
