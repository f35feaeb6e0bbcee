-- `image::get::halfwords` meets its contract. The invariant: the first i numbers are got. Assumes nothing.
use Prim.Native.Nat.{◌+◌, ◌*◌}
use Rattle.image.proofs.Areas.{got_two, got-more, got-all}
use Rattle.image.proofs.get.halfwords.Goals as goal
use Rattle.image.specs.Bytes.{le}
use borrow.Author.Rules.{rules}
use lib.ListN.{get_or, length-set}
use mathlib.Core.List.{[], ◌∷◌}
use mathlib.Core.Path.{◌≡◌, refl}
use native.Mathlib.Omega.{arith}

pub loop-i-preserved : goal.loop-i-preserved
loop-i-preserved g c =
    let l = c.loop-i in
    let x = c.args in
    let n = x.at + 2 * l.i in
    let two : le 2 c.from_le_bytes.result ≡ get_or x.area.now n 0 ∷ get_or x.area.now (n + 1) 0 ∷ [] = search rules in
    (simp length-set l.invariant.0, got-more (le 2) {w = 2} l.out l.i _ (omega arith) (omega arith) l.invariant.1 (rw two (got_two x.area.now n (n + 1) refl)))

pub returns-after-loop-i : goal.returns-after-loop-i
returns-after-loop-i g c =
    let l = c.loop-i in
    got-all (le 2) l.out l.i (omega arith) (omega arith) l.invariant.1
