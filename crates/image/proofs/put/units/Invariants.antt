-- `image::put::units` meets its contract. The invariant: the first i units are put. Assumes nothing.
use Rattle.image.proofs.put.units.Given as goal
use Rattle.image.specs.Bytes.{byte, each, Put}
use lib.ListN.{take}

abbrev pub invariant-loop-i : goal.invariant-loop-i
invariant-loop-i g l = Put l.at l.i (each (λ x. byte (g.T.Unit.num x)) (take l.i l.xs)) l.initial.area l.area
