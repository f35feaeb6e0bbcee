-- `bits::has_bit` meets its contract: below the width the bit is shifted down and tested, past it none is on.
-- Assumes nothing.
use Rattle.bits.proofs.Words.{bit_tested, bits_above}
use Rattle.bits.proofs.has_bit.Goals as goal
use Rattle.bits.specs.Word.{width}
use borrow.Author.Tests.{le-ltb}
use mathlib.Core.Path.{sym}
use native.Mathlib.Omega.{arith}

pub returns-then-i-lt-BITS : goal.returns-then-i-lt-BITS
returns-then-i-lt-BITS c = bit_tested c.args.w c.args.i

pub returns-else-i-lt-BITS : goal.returns-else-i-lt-BITS
returns-else-i-lt-BITS c = rw (le-ltb c.args.i width (omega arith)) (sym (bits_above width c.args.w c.args.i c.ranges.w.fits (omega arith)))
