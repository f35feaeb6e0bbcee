-- `image::put::boxes` meets its contract. Assumes nothing.
use Rattle.image.proofs.Areas.{puts}
use Rattle.image.proofs.put.boxes.Goals as goal

pub returns : goal.returns
returns c = puts c.units.ensures c.units-2.ensures
