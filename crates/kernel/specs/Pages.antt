-- Request 6 over runs of the kernel's calls, of structs: the statement. It is proved under its own name in proofs/Theorems.antt.
-- Assumes nothing.
use Rattle.promise.specs.Pages as Promise
use Rattle.kernel.specs.Holds.{Holds}

abbrev pub PagedRuns : Type 1
PagedRuns = Promise.PagedRuns Holds
