-- `rows::spots::spot_of` meets its contract. Assumes nothing.
use Rattle.rows.proofs.spots.spot_of.Goals as goal
use Rattle.rows.specs.Places.{spot_in}

pub returns : goal.returns
unfolding spot_in
returns c = rw (c.spot_from.ensures, c.entry.ensures, ← c.everyone-at.ensures)
