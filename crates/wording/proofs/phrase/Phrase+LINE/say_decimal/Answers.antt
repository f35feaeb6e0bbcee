-- `wording::phrase::Phrase+LINE::say_decimal` meets its contract.
-- Assumes nothing.
use Rattle.answers.proofs.AreaLaws.{written-whole}
use Rattle.answers.proofs.TextLaws.{decimal_short}
use Rattle.wording.proofs.phrase.Phrase+LINE.say_decimal.Goals as goal
use Rattle.wording.specs.Promises.{more}
use mathlib.Core.Path.{ap, ◌∙◌}
use native.Mathlib.Omega.{arith}

pub returns : goal.returns
returns c =
    let short = decimal_short c.args.n c.ranges.n.fits in
    c.say.ensures ∙ ap (more c.args.self) (written-whole c.put_decimal-end.ensures (omega arith))
