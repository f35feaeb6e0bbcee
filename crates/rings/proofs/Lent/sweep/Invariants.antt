-- `rings::Lent::sweep` meets its contract. The loop's invariant: the rings of the queues below q are walked.
-- Assumes nothing.
use Prim.Native.Nat.{ℕ}
use Rattle.rings.proofs.Lent.sweep.Given as goal
use Rattle.rings.specs.Walk.{tables, Walked}
use mathlib.Core.List.{List}

abbrev pub invariant-loop-q : goal.invariant-loop-q
invariant-loop-q l = (g : ℕ → List ℕ) × Walked (tables l.self.next.now l.self.prev.now) l.self.members l.q g l.at
