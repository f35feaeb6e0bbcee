-- `chains::fresh` meets its contract. Assumes nothing.
use Rattle.std.proofs.Common.{◌∙◌, arith}
use Rattle.bits.specs.Word.{width}
use Rattle.rings.proofs.Looks.{own_in_bytes}
use Rattle.chains.proofs.fresh.Goals as goal

pub returns : goal.returns
returns c = c.own.ensures ∙ own_in_bytes width (omega arith)
