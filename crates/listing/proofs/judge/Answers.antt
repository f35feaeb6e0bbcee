-- `listing::judge` meets its contract. Assumes nothing.
use Rattle.kernel.proofs.Judging.{judged_by}
use Rattle.listing.proofs.judge.Goals as goal
use mathlib.Core.Path.{refl}

pub returns : goal.returns
returns c = judged_by c.is_sound.result c.is_sound.ensures c.on_listing.ensures (λ s H. refl)
