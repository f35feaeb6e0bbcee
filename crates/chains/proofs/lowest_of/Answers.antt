-- `chains::lowest_of` meets its contract. Assumes nothing.
use Rattle.bits.specs.Word.{bits, width}
use Rattle.chains.proofs.Lows.{lowest-le}
use Rattle.chains.proofs.lowest_of.Goals as goal
use native.Mathlib.Omega.{arith}

pub overflow_cast-result : goal.overflow_cast-result
overflow_cast-result c = omega (arith, c.lowest_bit.ensures, lowest-le 0 width (bits c.args.s))
