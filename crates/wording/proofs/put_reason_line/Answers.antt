-- `wording::put_reason_line` meets its contract.
-- Assumes nothing.
use Rattle.reasons.specs.Reasons.{meant}
use Rattle.std.proofs.Common.{rules}
use Rattle.verdicts.specs.Answer.{said}
use Rattle.wording.proofs.Length.{reason-line-whole}
use Rattle.wording.proofs.put_reason_line.Goals as goal
use Rattle.wording.specs.Words.{reason_line}
use mathlib.Core.Path.{◌≡◌}

pub returns : goal.returns
returns c =
    let a = said c.args.a in
    let whole : c.say_words.result ≡ reason_line a (meant c.args.reason) =
    rw (c.say_words.ensures.0, c.say-line.ensures, c.line.ensures) (reason-line-whole a (meant c.args.reason) (search rules) (search rules) (search rules) c.say_words.ensures.1) in
    rw whole at c.put.ensures.written
