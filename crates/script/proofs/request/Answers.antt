-- `script::request` meets its contract.
-- Assumes nothing.
use Rattle.script.proofs.CallLaws.{tells}
use Rattle.script.proofs.request.Goals as goal
use Rattle.script.specs.Grammar.{longest_line, order}
use borrow.Author.Tests.{lt-ltb, le-ltb}
use lib.ListN.{length}
use native.Mathlib.Omega.{arith}

pub returns-then-line-gt-LONGEST_LINE : goal.returns-then-line-gt-LONGEST_LINE
unfolding order
returns-then-line-gt-LONGEST_LINE c = let line = c.args.line.now in tells line _ (rw (lt-ltb longest_line (length line) (omega arith)))

pub returns : goal.returns
unfolding order
returns c = let line = c.args.line.now in tells line _ (rw (le-ltb longest_line (length line) (omega arith)) c.sentence.ensures)
