-- `wording::row::Phrase+LINE::say_cell` meets its contract. The loop's invariant: behind the text stand as many spaces as the column is past its end.
-- Assumes nothing.
use Prim.Native.Nat.{◌-◌, ◌≤◌}
use Rattle.answers.specs.Ascii.{space}
use Rattle.wording.proofs.row.Phrase+LINE.say_cell.Given as goal
use Rattle.wording.specs.Promises.{more}
use lib.ListN.{length, replicate}
use mathlib.Core.List.{◌++◌}
use mathlib.Core.Path.{◌≡◌}

abbrev pub invariant-loop : goal.invariant-loop
invariant-loop l = (l.counter - length l.fn.text ≤ l.width - length l.fn.text) × (l.line ≡ more l.fn.self (l.fn.text ++ replicate (l.counter - length l.fn.text) space))
