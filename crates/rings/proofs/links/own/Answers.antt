-- `rings::links::own` meets its contract. The invariant: the first i entries are 0 to i - 1, in a byte each. Assumes nothing.
use Rattle.std.proofs.Common.{◌∙◌, length-set, arith}
use Rattle.rings.proofs.Units.{own-set, made_own}
use Rattle.rings.proofs.links.own.Goals as goal

pub loop-i-preserved : goal.loop-i-preserved
loop-i-preserved g c =
    let l = c.loop-i in
    (length-set l.units l.i c.of.result ∙ l.invariant.0, own-set g.T.Unit.num l.units l.i c.of.result c.of.ensures (omega arith) l.invariant.1)

pub returns : goal.returns
returns g c =
    made_own g.T.Unit.num c.loop-i.units c.loop-i.invariant.0 (λ i h. c.loop-i.invariant.1 i (omega arith))
