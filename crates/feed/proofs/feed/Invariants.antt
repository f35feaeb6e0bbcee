-- `feed::feed` meets its contract. The loop's invariant: whatever the rest of the chunk leads to from here, the whole of it leads to.
-- Assumes nothing.
use Prim.Native.Nat.{ℕ, ◌-◌, ◌≤◌}
use Rattle.feed.proofs.Loop.{Going}
use Rattle.feed.proofs.feed.Given as goal
use Rattle.feed.specs.Buffer.{Told, HoldsLine}
use lib.ListN.{length}
use mathlib.Core.List.{List}
use mathlib.Core.Path.{◌≡◌}

abbrev pub invariant-loop-used : goal.invariant-loop-used
invariant-loop-used l =
    ((length l.store ≡ length l.initial.store) × (length l.out ≡ length l.initial.out) × (l.used ≤ length l.chunk) × (l.t.length ≤ length l.initial.out) × Told l.held × (l.used ≡ 0 → l.t.length ≡ 0))
    × ((p : List ℕ) → HoldsLine p l.initial.line l.initial.held → Going p l.chunk l.initial.out l.initial.t.desk l.initial.store l.t l.held l.used l.store l.line l.out)

abbrev pub decreases-loop-used : goal.decreases-loop-used
decreases-loop-used l = length l.chunk - l.used
