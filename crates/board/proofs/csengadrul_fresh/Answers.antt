-- `board::csengadrul_fresh` meets its contract. Assumes nothing.
use Rattle.board.proofs.csengadrul_fresh.Goals as goal

pub returns : goal.returns
returns c = c.begin.ensures
