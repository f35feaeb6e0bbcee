-- `rings::links::Links::first` meets its contract. Assumes nothing.
use Rattle.std.proofs.Common.{map}
use Rattle.rings.proofs.links.Links.first.Goals as goal

pub returns : goal.returns
returns g c = c.first_by.ensures (map g.T.Unit.num c.args.self.prev)
