-- Linked queues that are kept as a struct with two arrays of a unit.
-- Assumes nothing.
use Rattle.std.specs.Prelude.{ℕ}
use Rattle.rings.specs.Ring.{Tables}
use Rattle.rings.specs.Units.{numbered}
use Rattle.rings.specs.declared.links.Links.{Links}

-- its arrays in numbers
abbrev pub tables_of : {A : Type 0} {N : ℕ} → (A → ℕ) → Links A N → Tables
tables_of num k = numbered num k.next k.prev
