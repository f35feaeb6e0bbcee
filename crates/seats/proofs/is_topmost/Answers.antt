-- `seats::is_topmost` meets its contract.
-- Assumes nothing.
use Rattle.seats.proofs.Classes.{topmost_none, not_idle, says_topmost}
use Rattle.seats.proofs.is_topmost.Goals as goal
use borrow.Author.Rules.{rules}
use native.Mathlib.Omega.{arith}

pub returns-then-ready-eq0 : goal.returns-then-ready-eq0
returns-then-ready-eq0 c = rw c.if-ready-eq0.true (topmost_none _ _)

pub returns-then-running-eq0 : goal.returns-then-running-eq0
returns-then-running-eq0 c = let x = c.args in not_idle x.running x.class x.ready (search rules) (search rules) (omega arith)

pub returns : goal.returns
returns c =
    let x = c.args in
    rw c.highest_bit.ensures (says_topmost x.running x.class x.ready (search rules) (search rules) c.if-running-eq0.false)
