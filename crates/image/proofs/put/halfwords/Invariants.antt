-- `image::put::halfwords` meets its contract. The invariant: the first i numbers are put. Assumes nothing.
use Prim.Native.Nat.{◌*◌}
use Rattle.image.proofs.put.halfwords.Given as goal
use Rattle.image.specs.Bytes.{le, each, Put}
use lib.ListN.{take}

abbrev pub invariant-loop-i : goal.invariant-loop-i
invariant-loop-i g l = Put l.at (2 * l.i) (each (le 2) (take l.i l.xs)) l.initial.area l.area
