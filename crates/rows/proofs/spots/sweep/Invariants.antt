-- `rows::spots::sweep` meets its contract. The invariant: the first i queues are swept. Assumes nothing.
use Rattle.rows.proofs.spots.sweep.Given as goal
use Rattle.rows.specs.Places.{swept}
use mathlib.Core.Path.{◌≡◌}

abbrev pub invariant-loop-i : goal.invariant-loop-i
invariant-loop-i l = l.at ≡ swept l.next l.place l.first l.i l.initial.at
