-- `seats::ready_word` meets its contract. The loop's invariant: w has the bits of the classes below c.
-- Assumes nothing.
use Rattle.bits.specs.Word.{width, word}
use Rattle.queues.specs.Queue.{num}
use Rattle.seats.proofs.ready_word.Given as goal
use Rattle.seats.specs.Fits.{ready_in}
use mathlib.Core.List.{map}
use mathlib.Core.Path.{◌≡◌}

abbrev pub invariant-loop-c : goal.invariant-loop-c
invariant-loop-c l = l.w ≡ word width (ready_in l.c (map num l.next))
