-- `image::get::procs` meets its contract. Assumes nothing.
use Rattle.image.proofs.Areas.{gots}
use Rattle.image.proofs.get.procs.Goals as goal

pub returns : goal.returns
returns c = gots (gots (gots (gots (gots c.byte.ensures c.units.ensures) c.units-2.ensures) (gots c.units-3.ensures c.units-4.ensures)) c.word.ensures) c.word-2.ensures
