-- `image::get::units` meets its contract. The invariant: the first i units are got. Assumes nothing.
use Prim.Native.Nat.{◌+◌}
use Rattle.image.proofs.Areas.{got-one, got-more, got-all}
use Rattle.image.proofs.get.units.Goals as goal
use Rattle.image.specs.Bytes.{byte}
use lib.ListN.{length-set}
use mathlib.Core.Path.{refl}
use native.Mathlib.Omega.{arith}

pub loop-i-preserved : goal.loop-i-preserved
loop-i-preserved g c =
    let l = c.loop-i in
    let x = c.args in
    (simp length-set l.invariant.0, got-more (λ u. byte (g.T.Unit.num u)) l.out l.i _ (omega arith) refl l.invariant.1 (rw c.of.ensures (got-one x.area.now (x.at + l.i))))

pub returns-after-loop-i : goal.returns-after-loop-i
returns-after-loop-i g c =
    let l = c.loop-i in
    got-all (λ u. byte (g.T.Unit.num u)) l.out l.i (omega arith) (omega arith) l.invariant.1
