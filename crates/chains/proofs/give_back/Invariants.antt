-- `chains::give_back` meets its contract. The invariant: what the rest makes of the links and of the free ones, the whole makes. Assumes nothing.
use Prim.Native.Nat.{◌-◌, ◌^◌, ◌<◌}
use Rattle.bits.specs.Word.{word, bits, width}
use Rattle.chains.proofs.give_back.Given as goal
use Rattle.chains.specs.Links.{num, run, alone, added}
use mathlib.Core.List.{map}
use mathlib.Core.Path.{◌≡◌}

abbrev pub invariant-loop : goal.invariant-loop
invariant-loop l =
    let t = map num l.fn.chain in
    record {
      fits : l.s < 2 ^ width;
      links : alone (map num l.chain) (run t (l.n - l.counter) l.x.0) ≡ alone (map num l.initial.chain) (run t l.n l.initial.x.0);
      others : word width (added (bits l.s) (run t (l.n - l.counter) l.x.0)) ≡ word width (added (bits l.initial.s) (run t l.n l.initial.x.0));
    }
