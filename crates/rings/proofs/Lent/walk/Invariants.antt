-- `rings::Lent::walk` meets its contract. The loop's invariant: what the rest of the walk gives from here, the whole gives from the head.
-- The measure is the number of entries without a mark. Assumes nothing.
use Prim.Native.Nat.{ℕ, ◌+◌, ◌<◌}
use Rattle.lists.specs.Lists.{occurs}
use Rattle.rings.proofs.Lent.walk.Given as goal
use Rattle.rings.specs.Walk.{tables, Walk}
use lib.ListN.{length}
use mathlib.Core.Bool.{Bool}
use mathlib.Core.List.{List}
use mathlib.Core.Path.{◌≡◌}

abbrev pub invariant-loop-b : goal.invariant-loop-b
invariant-loop-b l =
    (length l.at ≡ 32) × (l.a < length l.self.next.now) × ((ok : Bool) (s' : List ℕ) → Walk (tables l.self.next.now l.self.prev.now) l.self.members (l.self.members + l.q) (l.q + 1) l.at l.a ok s' → Walk (tables l.self.next.now l.self.prev.now) l.self.members (l.self.members + l.q) (l.q + 1) l.initial.at (l.self.members + l.q) ok s')

abbrev pub decreases-loop-b : goal.decreases-loop-b
decreases-loop-b l = occurs 0 l.at
