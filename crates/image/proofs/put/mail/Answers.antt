-- `image::put::mail` meets its contract. Assumes nothing.
use Rattle.image.proofs.Areas.{puts}
use Rattle.image.proofs.put.mail.Goals as goal

pub returns : goal.returns
returns c = puts (puts (puts (puts (puts c.boxes.ensures c.units.ensures) c.word.ensures) c.halfwords.ensures) c.word-2.ensures) c.units-2.ensures
