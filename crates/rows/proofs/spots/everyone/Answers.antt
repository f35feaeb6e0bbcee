-- `rows::spots::everyone` meets its contract. Assumes nothing.
use Rattle.rows.proofs.spots.everyone.Goals as goal
use Rattle.rows.specs.Places.{everyone}
use mathlib.Core.Path.{◌∙◌}

pub returns : goal.returns
unfolding everyone
returns c =
    c.sweep-3.ensures ∙ rw (c.sweep-2.ensures, c.sweep.ensures, c.bytes_of-links.ensures)
