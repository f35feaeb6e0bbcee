-- Request 10 over runs of the kernel's calls, of the struct's own processes: the statement. It is proved under its own name in proofs/Theorems.antt.
-- Assumes nothing.
use Rattle.promise.specs.Waiters as Promise
use Rattle.kernel.specs.Holds.{Holds, seating}

abbrev pub OrderlyRuns : Type 1
OrderlyRuns = Promise.InTurn Holds seating
