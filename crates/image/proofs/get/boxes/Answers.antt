-- `image::get::boxes` meets its contract. Assumes nothing.
use Rattle.image.proofs.Areas.{gots}
use Rattle.image.proofs.get.boxes.Goals as goal

pub returns : goal.returns
returns c = gots c.units.ensures c.units-2.ensures
