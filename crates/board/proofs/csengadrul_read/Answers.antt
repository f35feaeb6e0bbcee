-- `board::csengadrul_read` meets its contract. Assumes nothing.
use Rattle.board.proofs.Calls.{read_called}
use Rattle.board.proofs.csengadrul_read.Goals as goal
use Rattle.image.proofs.Types.{sized}

pub returns : goal.returns
returns c =
    let image = c.read in
    read_called _ _ _ (sized _ _ image.type_inv) image.ensures c.read-done.ensures
