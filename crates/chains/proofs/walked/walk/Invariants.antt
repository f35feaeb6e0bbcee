-- `chains::walked::walk` meets its contract. The invariant: so many buffers are reached, from b on. Assumes nothing.
use Prim.Native.Nat.{◌<◌}
use Rattle.bits.specs.Word.{bits}
use Rattle.chains.proofs.Reading.{Reached}
use Rattle.chains.proofs.walked.walk.Given as goal
use Rattle.chains.specs.Links.{num}
use mathlib.Core.List.{map}

abbrev pub invariant-loop : goal.invariant-loop
invariant-loop l = record {
  byte : l.x.0 < 256;
  reached : Reached (map num l.chain) l.initial.x.0 (bits l.todo) l.counter l.x.0 l.last.0 l.left;
}
