-- `image::get::units` meets its contract. The invariant: the first i units are got. Assumes nothing.
use Rattle.image.proofs.get.units.Given as goal
use Rattle.image.specs.Bytes.{byte, each, Got}
use lib.ListN.{length, take}
use mathlib.Core.Path.{◌≡◌}

abbrev pub invariant-loop-i : goal.invariant-loop-i
invariant-loop-i g l = (length l.out ≡ g.row.N) × Got l.at l.i (each (λ x. byte (g.T.Unit.num x)) (take l.i l.out)) l.area
