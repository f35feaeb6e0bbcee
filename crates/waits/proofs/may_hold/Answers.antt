-- `waits::may_hold` meets its contract. Assumes nothing.
use Prim.Native.Nat.{◌-◌}
use Rattle.waits.proofs.may_hold.Goals as goal
use native.Mathlib.Omega.{arith}

pub returns-in-6-to-21 : goal.returns-in-6-to-21
returns-in-6-to-21 c = λ f. f.at_no_mailbox (c.args.place - 6) (omega arith) (omega arith)
