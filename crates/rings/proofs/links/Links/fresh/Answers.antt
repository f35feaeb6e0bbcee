-- `rings::links::Links::fresh` meets its contract. Assumes nothing.
use Rattle.std.proofs.Common.{arith}
use Rattle.rings.proofs.Units.{fresh_own}
use Rattle.rings.proofs.links.Links.fresh.Goals as goal

pub returns : goal.returns
returns g c =
    let few = g.T.Member.few in
    fresh_own g.T.Unit.num c.own-alone.result c.own-alone.ensures g.T.Member.nodes (omega arith)
