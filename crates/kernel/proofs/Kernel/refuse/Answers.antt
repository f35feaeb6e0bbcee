-- `kernel::Kernel::refuse` meets its contract. Assumes nothing.
use Rattle.kernel.proofs.Kernel.refuse.Goals as goal
use Rattle.verdicts.specs.Told.{told}

pub returns : goal.returns
unfolding told
returns c = rw (← c.code.ensures, ← c.number.ensures) c.refused.ensures
