-- `image::read` meets its contract. Assumes nothing.
use Rattle.image.proofs.Areas.{gots, got-whole}
use Rattle.image.proofs.read.Goals as goal
use Rattle.image.specs.Image.{image}

pub returns-then-area-ne-SIZE : goal.returns-then-area-ne-SIZE
returns-then-area-ne-SIZE c = record { whole = λ h. absurd (c.if-area-ne-SIZE.true h); other = λ h. c.blank.ensures }

pub returns : goal.returns
unfolding image
returns c = let g = gots (gots (gots (gots c.procs.ensures c.mail.ensures) c.halfwords.ensures) c.units.ensures) c.settings.ensures in
    record { whole = λ h. got-whole h g; other = λ h. absurd (h c.if-area-ne-SIZE.false) }
