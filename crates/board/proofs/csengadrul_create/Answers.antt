-- `board::csengadrul_create` meets its contract. Assumes nothing.
use Rattle.board.proofs.Calls.{called}
use Rattle.board.proofs.csengadrul_create.Goals as goal
use Rattle.image.proofs.Types.{sized}

pub returns : goal.returns
returns c =
    let read = c.read in
    called (sized _ _ read.type_inv) read.ensures (search) c.hand_back.ensures
