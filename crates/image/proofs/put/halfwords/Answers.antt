-- `image::put::halfwords` meets its contract. The invariant: the first i numbers are put. Assumes nothing.
use Prim.Native.Nat.{◌+◌, ◌*◌, ◌<◌}
use Rattle.image.proofs.Areas.{put_two, put_more}
use Rattle.image.proofs.put.halfwords.Goals as goal
use Rattle.image.specs.Bytes.{le}
use lib.ListN.{length}
use borrow.Author.Rules.{rules}
use native.Mathlib.Omega.{arith}
use mathlib.Core.Path.{refl}

pub loop-i-preserved : goal.loop-i-preserved
loop-i-preserved g c =
    let l = c.loop-i in
    let x = c.args in
    let n = x.at + 2 * l.i in
    let h : l.i < length x.xs = search rules in
    put_more (le 2) {w = 2} x.xs 0 l.i h (omega arith) l.invariant (rw c.to_le_bytes.ensures (put_two l.area n (n + 1) _ _ refl))
