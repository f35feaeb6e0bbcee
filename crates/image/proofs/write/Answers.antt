-- `image::write` meets its contract. Assumes nothing.
use Rattle.image.proofs.Areas.{puts, put_whole}
use Rattle.image.proofs.write.Goals as goal
use Rattle.image.specs.Image.{image}
use mathlib.Core.Path.{refl}

pub returns-then-area-ne-SIZE : goal.returns-then-area-ne-SIZE
returns-then-area-ne-SIZE c = record { whole = λ h. absurd (c.if-area-ne-SIZE.true h); other = λ h. refl }

pub returns : goal.returns
unfolding image
returns c =
    let p = puts (puts (puts (puts c.procs.ensures c.mail.ensures) c.halfwords.ensures) c.units.ensures) c.settings.ensures in
    record { whole = λ h. put_whole h p; other = λ h. absurd (h c.if-area-ne-SIZE.false) }
