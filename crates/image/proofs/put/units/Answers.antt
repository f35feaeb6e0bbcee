-- `image::put::units` meets its contract. The invariant: the first i units are put. Assumes nothing.
use Prim.Native.Nat.{◌+◌, ◌<◌}
use Rattle.image.proofs.Areas.{put_one, put_more}
use Rattle.image.proofs.put.units.Goals as goal
use Rattle.image.specs.Bytes.{byte}
use lib.ListN.{length}
use borrow.Author.Rules.{rules}
use mathlib.Core.Path.{refl}

pub loop-i-preserved : goal.loop-i-preserved
loop-i-preserved g c =
    let l = c.loop-i in
    let x = c.args in
    let h : l.i < length x.xs = search rules in
    put_more (λ u. byte (g.T.Unit.num u)) x.xs c.index-xs-i.result l.i h refl l.invariant (rw c.number.ensures (put_one l.area (x.at + l.i) _))
