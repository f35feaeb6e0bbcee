-- `image::get::halfwords` meets its contract. The invariant: the first i numbers are got. Assumes nothing.
use Prim.Native.Nat.{◌*◌}
use Rattle.image.proofs.get.halfwords.Given as goal
use Rattle.image.specs.Bytes.{le, each, Got}
use lib.ListN.{length, take}
use mathlib.Core.Path.{◌≡◌}

abbrev pub invariant-loop-i : goal.invariant-loop-i
invariant-loop-i g l = (length l.out ≡ g.row.N) × Got l.at (2 * l.i) (each (le 2) (take l.i l.out)) l.area
