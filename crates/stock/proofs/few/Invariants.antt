-- `stock::few` meets its contract. The invariant: no mailbox below m holds too many. Assumes nothing.
use Prim.Native.Nat.{ℕ, ◌+◌, ◌<◌}
use Rattle.habits.specs.Tables.{capacity_in}
use Rattle.plain.specs.Sizes.{buffers, mailboxes}
use Rattle.rings.specs.Moves.{holds_at_least}
use Rattle.rings.specs.Walk.{tables}
use Rattle.stock.proofs.few.Given as goal
use mathlib.Core.Bool.{false}
use mathlib.Core.List.{List}
use mathlib.Core.Path.{◌≡◌}

abbrev pub invariant-loop-m : goal.invariant-loop-m
invariant-loop-m l =
    (i : ℕ) → i < l.m → (prev : List ℕ) → holds_at_least buffers mailboxes (tables l.next prev) i (capacity_in l.capacity i + 1) ≡ false
