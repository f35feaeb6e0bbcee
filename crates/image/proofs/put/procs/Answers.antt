-- `image::put::procs` meets its contract. Assumes nothing.
use Rattle.image.proofs.Areas.{puts}
use Rattle.image.proofs.put.procs.Goals as goal

pub returns : goal.returns
returns c = puts (puts (puts (puts (puts c.byte.ensures c.units.ensures) c.units-2.ensures) (puts c.units-3.ensures c.units-4.ensures)) c.word.ensures) c.word-2.ensures
