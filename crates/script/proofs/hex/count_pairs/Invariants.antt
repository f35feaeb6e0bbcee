-- `script::hex::count_pairs` meets its contract. The loop's invariant: the pairs so far spell bytes, and what is left is left to read.
-- Assumes nothing.
use Prim.Native.Nat.{◌*◌}
use Rattle.script.proofs.HexLaws.{Counted}
use Rattle.script.proofs.hex.count_pairs.Given as goal
use lib.ListN.{drop}

abbrev pub invariant-loop-i : goal.invariant-loop-i
invariant-loop-i l = Counted l.w l.i (drop (2 * l.i) l.w)
