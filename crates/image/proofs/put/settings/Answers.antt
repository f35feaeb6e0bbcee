-- `image::put::settings` meets its contract. Assumes nothing.
use Rattle.image.proofs.Areas.{puts}
use Rattle.image.proofs.put.settings.Goals as goal

pub returns : goal.returns
returns c = puts (puts c.byte.ensures c.units.ensures) c.units-2.ensures
