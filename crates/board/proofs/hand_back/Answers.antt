-- `board::hand_back` meets its contract. Assumes nothing.
use Rattle.board.proofs.hand_back.Goals as goal
use Rattle.image.proofs.Types.{sized}
use mathlib.Core.Path.{refl}

pub returns : goal.returns
returns c = record { sized = search sized; written = search; answer = refl }
