-- `chains::walked::busy` meets its contract. Assumes nothing.
use Rattle.chains.proofs.Bits.{taken_bits}
use Rattle.chains.proofs.walked.busy.Goals as goal

pub returns : goal.returns
returns c = taken_bits c.args.free c.ranges.free.fits
