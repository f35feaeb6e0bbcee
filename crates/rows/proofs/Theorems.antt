-- The theorem of specs/Theorems.antt.
-- Assumes nothing.
use Rattle.rows.specs.Theorems.{OneTable}
use Rattle.rows.proofs.Each.{one_each}

pub one_table : OneTable
one_table k t t' s s' = let e = one_each s.whole s'.whole in λ i. record { rows = e i }
