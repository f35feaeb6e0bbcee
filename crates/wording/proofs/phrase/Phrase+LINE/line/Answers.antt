-- `wording::phrase::Phrase+LINE::line` meets its contract.
-- Assumes nothing.
use Rattle.answers.proofs.AreaLaws.{written-whole}
use Rattle.answers.proofs.TextLaws.{line_short}
use Rattle.std.proofs.Common.{rules}
use Rattle.verdicts.specs.Answer.{said}
use Rattle.wording.proofs.phrase.Phrase+LINE.line.Goals as goal
use native.Mathlib.Omega.{arith}

pub returns : goal.returns
returns c =
    let short = line_short (said c.args.a) (search rules) (search rules) (search rules) in
    written-whole c.put_line-length.ensures (omega (arith, short))
