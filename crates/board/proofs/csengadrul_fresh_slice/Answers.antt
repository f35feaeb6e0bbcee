-- `board::csengadrul_fresh_slice` meets its contract. Assumes nothing.
use Rattle.board.proofs.csengadrul_fresh_slice.Goals as goal

pub returns : goal.returns
returns c = c.begin.ensures
