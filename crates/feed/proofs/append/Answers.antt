-- `feed::append` meets its contract.
-- Assumes nothing.
use Rattle.feed.proofs.BufferLaws.{longer, too_long_lem, still_long}
use Rattle.feed.proofs.append.Goals as goal
use native.Mathlib.Omega.{arith}

pub returns-in_err-start-clause-appended : goal.returns-in_err-start-clause-appended
returns-in_err-start-clause-appended c = λ l h. rw c.from_residual.ensures (still_long c.args.piece.now (rw c.in_err-start.was at h))

pub returns-then-end-gt-LONGEST_LINE-clause-appended : goal.returns-then-end-gt-LONGEST_LINE-clause-appended
returns-then-end-gt-LONGEST_LINE-clause-appended c = λ l h. too_long_lem c.args.piece.now (omega arith) (rw c.in_ok-start.was at h)

pub returns-clause-appended : goal.returns-clause-appended
returns-clause-appended c = λ l h. rw c.copy_from_slice.ensures.after (longer c.args.piece.now _ (omega arith) (rw c.in_ok-start.was at h))
