-- `rings::links::Links::is_empty` meets its contract. Assumes nothing.
use Rattle.rings.proofs.Looks.{says_empty}
use Rattle.rings.proofs.links.Links.is_empty.Goals as goal

pub returns : goal.returns
returns g c = rw (c.MEMBERS.ensures, c.number.ensures) (says_empty c.first.ensures.whole)
