-- The theorem about the rows, as a statement over their promise. It is proved under its own name in proofs/Theorems.antt.
-- Assumes nothing.
use Rattle.std.specs.Prelude.{◌≡◌}
use Rattle.kernel.specs.declared.Kernel.{Kernel}
use Rattle.rows.specs.declared.Table.{Table}
use Rattle.rows.specs.Rows.{Shows}

-- No second table: two tables that meet the promise are equal, whatever the struct holds.
abbrev pub OneTable : Type 0
OneTable = (k : Kernel) (t t' : Table) → Shows k t → Shows k t' → t ≡ t'
