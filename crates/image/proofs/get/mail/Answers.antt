-- `image::get::mail` meets its contract. Assumes nothing.
use Rattle.image.proofs.Areas.{gots}
use Rattle.image.proofs.get.mail.Goals as goal

pub returns : goal.returns
returns c = gots (gots (gots (gots (gots c.boxes.ensures c.units.ensures) c.word.ensures) c.halfwords.ensures) c.word-2.ensures) c.units-2.ensures
