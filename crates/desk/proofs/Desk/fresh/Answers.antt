-- `desk::Desk::fresh` meets its contract.
-- Assumes nothing.
use Rattle.desk.proofs.Desk.fresh.Goals as goal
use Rattle.kernel.specs.Holds.{Holds}
use Rattle.plain.specs.State.{Settings, start}
use mathlib.Core.Path.{refl, subst}

pub returns : goal.returns
returns c = record { first = refl; state = subst (λ (x : Settings). Holds c.fresh-state.result (start x)) c.usual.ensures c.fresh-state.ensures }
