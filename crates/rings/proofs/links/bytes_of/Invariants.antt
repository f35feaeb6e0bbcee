-- `rings::links::bytes_of` meets its contract. The invariant: the first i bytes are the numbers of the first i links. Assumes nothing.
use Rattle.std.proofs.Common.{◌≡◌, ◌<◌, ℕ, get_or, length, map}
use Rattle.rings.proofs.links.bytes_of.Given as goal

abbrev pub invariant-loop-i : goal.invariant-loop-i
invariant-loop-i g l = (length l.bytes ≡ g.row.N) × ((k : ℕ) → k < l.i → get_or l.bytes k 0 ≡ get_or (map g.T.Unit.num l.links) k 0)
