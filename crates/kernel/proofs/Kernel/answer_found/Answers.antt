-- `kernel::Kernel::answer_found` meets its contract. Assumes nothing.
use Rattle.kernel.proofs.Kernel.answer_found.Goals as goal
use Rattle.verdicts.specs.Told.{told}
use mathlib.Core.Path.{refl}

pub returns-in-Ok : goal.returns-in-Ok
unfolding told
returns-in-Ok c = rw (c.in-Ok.is, c.answer.ensures) refl
