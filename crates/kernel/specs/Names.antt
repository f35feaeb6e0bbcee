-- Request 4 over runs of the kernel's calls, of structs: the statement. It is proved under its own name in proofs/Theorems.antt.
-- Assumes nothing.
use Rattle.promise.specs.Names as Promise
use Rattle.kernel.specs.Holds.{Holds}

abbrev pub NamedRuns : Type 1
NamedRuns = Promise.NamedRuns Holds
