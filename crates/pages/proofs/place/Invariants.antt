-- `pages::place` meets its contract. The invariant: the first i bytes are copied. Assumes nothing.
use Rattle.pages.proofs.place.Given as goal
use lib.ListN.{length}
use lib.Seq.{paste}
use mathlib.Core.Path.{◌≡◌}

abbrev pub invariant-loop-i : goal.invariant-loop-i
invariant-loop-i l = (length l.dst ≡ length l.initial.dst) × (l.dst ≡ paste l.initial.dst l.at l.src l.i)
