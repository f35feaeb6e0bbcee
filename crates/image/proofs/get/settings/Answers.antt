-- `image::get::settings` meets its contract. Assumes nothing.
use Rattle.image.proofs.Areas.{gots}
use Rattle.image.proofs.get.settings.Goals as goal

pub returns : goal.returns
returns c = gots (gots c.byte.ensures c.units.ensures) c.units-2.ensures
