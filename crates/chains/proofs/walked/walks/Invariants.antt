-- `chains::walked::walks` meets its contract. The invariant: the messages at the buffers below b are walked. Assumes nothing.
use Rattle.bits.specs.Word.{bits}
use Rattle.chains.proofs.walked.walks.Given as goal
use Rattle.chains.specs.Chained.{Passed}
use Rattle.chains.specs.Links.{num}
use mathlib.Core.List.{map}

abbrev pub invariant-loop-b : goal.invariant-loop-b
invariant-loop-b l = Passed (map num l.chain) l.need (bits l.free) l.b (bits l.todo)
