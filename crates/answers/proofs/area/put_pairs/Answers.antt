-- `answers::area::put_pairs` meets its contract.
-- Assumes nothing.
use Prim.Native.Nat.{◌*◌}
use Rattle.answers.proofs.AreaLaws.{laid_pair}
use Rattle.answers.proofs.area.put_pairs.Goals as goal
use lib.Seq.{take_all}
use mathlib.Core.Path.{refl, ◌∙◌}
use native.Mathlib.Omega.{arith}

pub loop-i-init : goal.loop-i-init
loop-i-init c = refl

pub loop-i-preserved : goal.loop-i-preserved
loop-i-preserved c =
    let s = c.args in
    let l = c.loop-i in
    rw (c.hex_of-in-loop-i.ensures, c.hex_of.ensures, l.invariant) (laid_pair s.out.now s.message.now l.i (2 * l.i) (omega arith) (omega arith) c.requires)

pub returns : goal.returns
returns c = let l = c.loop-i in l.invariant ∙ rw (take_all l.i c.args.message.now c.loop-i-test.false)
