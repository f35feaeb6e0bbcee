-- `wording::put_sentence` meets its contract.
-- Assumes nothing.
use Rattle.reasons.specs.Reasons.{meant}
use Rattle.wording.proofs.Length.{sentence_short, sentence-whole}
use Rattle.wording.proofs.put_sentence.Goals as goal
use Rattle.wording.specs.Words.{sentence}
use mathlib.Core.Path.{◌≡◌}
use native.Mathlib.Omega.{arith}

pub returns : goal.returns
returns c =
    let whole : c.say_about.result ≡ sentence c.args.process (meant c.args.reason) =
    rw (c.say_about.ensures.0, c.say_number-who.ensures, c.say.ensures, c.new.ensures) (sentence-whole c.args.process (meant c.args.reason) c.ranges.process.fits c.say_about.ensures.1) in
    record {
      written = rw whole at c.put.ensures.written;
      short = omega (arith, sentence_short c.args.process (meant c.args.reason) c.ranges.process.fits c.say_about.ensures.1);
    }
