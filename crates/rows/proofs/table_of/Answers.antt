-- `rows::table_of` meets its contract. The invariant: the rows of the first i processes are made. Assumes nothing.
use Rattle.plain.specs.Sizes.{processes}
use Rattle.rows.proofs.Rows.{shows, made}
use Rattle.rows.proofs.table_of.Goals as goal
use mathlib.Core.Path.{◌≡◌}
use native.Mathlib.Omega.{arith}

pub returns : goal.returns
returns c =
    let l = c.loop-i in
    let all : l.i ≡ processes = omega arith in
    shows (made c.args.k c.spots_of-at.result _ c.spots_of-at.ensures l.invariant.0 (λ p d h. l.invariant.1 p d (omega arith)) c.null_row.ensures)
