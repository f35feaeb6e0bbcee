-- `telling::refuse` meets its contract.
-- Assumes nothing.
use Rattle.telling.proofs.refuse.Goals as goal
use Rattle.telling.specs.Promise.{refused}
use native.Mathlib.Omega.{arith}

pub returns : goal.returns
returns c = record { text = _; is = refused; short = omega arith; written = c.put-length.ensures }
