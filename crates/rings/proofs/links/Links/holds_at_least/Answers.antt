-- `rings::links::Links::holds_at_least` meets its contract. Assumes nothing.
use Rattle.std.proofs.Common.{map}
use Rattle.rings.proofs.links.Links.holds_at_least.Goals as goal

pub returns : goal.returns
returns g c = rw c.bytes_of-next.ensures at (c.at_least.ensures (map g.T.Unit.num c.args.self.prev))
