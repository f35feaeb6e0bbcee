-- `feed::answer` meets its contract.
-- Assumes nothing.
use Prim.Native.Nat.{◌-◌}
use Rattle.feed.proofs.Laying.{behind}
use Rattle.feed.proofs.answer.Goals as goal
use lib.ListN.{length}
use native.Mathlib.Omega.{arith}

pub returns-clause-answered : goal.returns-clause-answered
returns-clause-answered c =
    λ l h. behind (length c.args.out.now - c.args.t.length) (omega arith) c.requires (c.text-told.ensures.answered l h)
