-- `rows::table_of` meets its contract. The invariant: the rows of the first i processes are made. Assumes nothing.
use Prim.Native.Nat.{ℕ, ◌<◌}
use Rattle.plain.specs.Sizes.{processes}
use Rattle.rows.proofs.Rows.{row_by}
use Rattle.rows.proofs.table_of.Given as goal
use Rattle.rows.specs.declared.Row.{Row}
use lib.ListN.{length, get_or}
use mathlib.Core.Path.{◌≡◌}

abbrev pub invariant-loop-i : goal.invariant-loop-i
invariant-loop-i l = (length l.rows ≡ processes) × ((p : ℕ) (d : Row) → p < l.i → get_or l.rows p d ≡ row_by l.fn.k l.at p)
