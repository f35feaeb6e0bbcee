-- `bits::put_bit` meets its contract: below the width the bit is put on by an or and off by an and, past it there is none to put.
-- Assumes nothing.
use Rattle.bits.proofs.Words.{bit-set, bit-cleared, put_past}
use Rattle.bits.proofs.put_bit.Goals as goal
use Rattle.bits.specs.Word.{width}
use native.Mathlib.Omega.{arith}

pub returns-then-i-ge-BITS : goal.returns-then-i-ge-BITS
returns-then-i-ge-BITS c = put_past width c.args.w c.args.i c.ranges.w.fits c.args.on (omega arith)

pub returns-then-on : goal.returns-then-on
returns-then-on c = rw c.if-on.true (bit-set width c.args.w c.args.i c.ranges.w.fits (omega arith))

pub returns-else-on : goal.returns-else-on
returns-else-on c = rw c.if-on.false (bit-cleared width c.args.w c.args.i c.ranges.w.fits (omega arith))
