-- A question at any moment of a run, of structs: the statement. It is proved under its own name in proofs/Theorems.antt.
-- Assumes nothing.
use Rattle.promise.specs.Asked as Promise
use Rattle.kernel.specs.Holds.{Holds}

abbrev pub Questions : Type 1
Questions = Promise.Questions Holds
