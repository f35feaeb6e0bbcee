-- `pages::gather` meets its contract. The loop's invariant: what the rest fills in, the whole fills in.
-- Assumes nothing.
use Prim.Native.Nat.{◌-◌}
use Rattle.chains.specs.Links.{num, run}
use Rattle.pages.proofs.gather.Given as goal
use Rattle.pages.specs.Pieces.{filled}
use Rattle.plain.specs.Pages.{needed}
use mathlib.Core.List.{map}
use mathlib.Core.Path.{◌≡◌}

abbrev pub invariant-loop-at : goal.invariant-loop-at
invariant-loop-at l =
    filled l.room l.at l.store (run (map num l.chain) (needed (l.size - l.at)) l.from.0) (l.size - l.at)
    ≡ filled l.initial.room 0 l.store (run (map num l.chain) (needed l.size) l.initial.from.0) l.size
