-- `script::numbers::read_number` meets its contract. The loop's invariant: the number is `v` with the digits from here on.
-- Assumes nothing.
use Prim.Native.Nat.{◌≤◌}
use Rattle.script.proofs.numbers.read_number.Given as goal
use Rattle.script.specs.Grammar.{number, digits, up_to, highest_number}
use lib.ListN.{drop}
use mathlib.Core.Path.{◌≡◌}

abbrev pub invariant-loop-x : goal.invariant-loop-x
invariant-loop-x l = (l.v ≤ highest_number) × (number l.w ≡ up_to highest_number (digits l.v (drop l.x-index l.w)))
