-- `rings::links::own` meets its contract. The invariant: the first i entries are 0 to i - 1, in a byte each. Assumes nothing.
use Rattle.std.proofs.Common.{◌≡◌, ◌<◌, ◌%◌, ℕ, get_or, length, map}
use Rattle.rings.proofs.links.own.Given as goal

abbrev pub invariant-loop-i : goal.invariant-loop-i
invariant-loop-i g l = (length l.units ≡ g.row.UNITS) × ((k : ℕ) → k < l.i → get_or (map g.T.Unit.num l.units) k 0 ≡ k % 256)
