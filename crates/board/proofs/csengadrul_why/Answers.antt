-- `board::csengadrul_why` meets its contract. Assumes nothing.
use Rattle.board.proofs.Reasons.{in_numbers}
use Rattle.board.proofs.csengadrul_why.Goals as goal
use mathlib.Core.Path.{refl}

pub returns : goal.returns
returns c =
    let w = c.why-w in
    in_numbers _ w.result _ w.ensures refl (rw c.in_numbers-n.ensures)
