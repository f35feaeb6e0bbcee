-- `verdicts::refuse_if` meets its contract. Assumes nothing.
use Rattle.verdicts.proofs.refuse_if.Goals as goal
use Rattle.verdicts.specs.Chain.{found, or_else}
use Rattle.verdicts.specs.Told.{told}
use mathlib.Core.Path.{refl}

pub returns-then-holds : goal.returns-then-holds
unfolding found or_else told
returns-then-holds c = rw c.if-holds.true refl

pub returns-else-holds : goal.returns-else-holds
unfolding found or_else told
returns-else-holds c = rw c.if-holds.false refl
