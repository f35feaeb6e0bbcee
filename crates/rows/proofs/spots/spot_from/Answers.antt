-- `rows::spots::spot_from` meets its contract. Assumes nothing.
use Rattle.rows.proofs.spots.spot_from.Goals as goal
use Rattle.rows.specs.Places.{spot_from}
use mathlib.Core.Path.{refl}

pub returns : goal.returns
unfolding spot_from
returns c = refl
