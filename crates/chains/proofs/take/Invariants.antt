-- `chains::take` meets its contract. The invariant: what the rest makes of the links and of the free ones, the whole makes. Assumes nothing.
use Prim.Native.Nat.{◌^◌, ◌<◌}
use Rattle.bits.specs.Word.{word, bits, width}
use Rattle.chains.proofs.take.Given as goal
use Rattle.chains.specs.Links.{num, lows, link_up, removed}
use mathlib.Core.List.{map}
use mathlib.Core.Path.{◌≡◌}

abbrev pub invariant-loop-b : goal.invariant-loop-b
invariant-loop-b l = record {
  fits : l.s < 2 ^ width;
  links : link_up (map num l.chain) (lows l.left (bits l.s)) ≡ link_up (map num l.initial.chain) (lows l.n (bits l.initial.s));
  others : word width (removed (bits l.s) (lows l.left (bits l.s))) ≡ word width (removed (bits l.initial.s) (lows l.n (bits l.initial.s)));
}

abbrev pub decreases-loop-b : goal.decreases-loop-b
decreases-loop-b l = l.left
