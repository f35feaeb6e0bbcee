-- `stock::handed` meets its contract. The invariant: what comes of the hands that are left comes of all. Assumes nothing.
use Prim.Native.Nat.{ℕ, ◌^◌, ◌<◌}
use Rattle.bits.specs.Word.{bit, bits, width}
use Rattle.boxes.specs.Box.{num}
use Rattle.lists.specs.Lists.{total}
use Rattle.plain.specs.Sizes.{processes, buffers}
use Rattle.stock.proofs.handed.Given as goal
use Rattle.stock.specs.Tests.{Handed}
use Rattle.std.specs.Prelude.{Option}
use lib.ListN.{length}
use mathlib.Core.List.{List, map}
use mathlib.Core.Path.{◌≡◌}

abbrev pub invariant-loop-todo : goal.invariant-loop-todo
invariant-loop-todo l =
    (length l.s ≡ buffers) × (length l.rest ≡ processes) × (l.todo < 2 ^ width)
    × ((r : Option (List ℕ)) → Handed l.s (map num l.rest) l.todo r → Handed l.initial.s (map num l.initial.rest) l.initial.todo r)

abbrev pub decreases-loop-todo : goal.decreases-loop-todo
decreases-loop-todo l = total width (λ p. bit (bits l.todo p))
