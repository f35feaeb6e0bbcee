-- `script::calls::three_or_more` meets its contract. Where what follows the third space is cut once more, there are five words.
-- Assumes nothing.
use Rattle.script.proofs.CallLaws.{sentence_five}
use Rattle.script.proofs.calls.three_or_more.Goals as goal

pub returns-in-Some-cut : goal.returns-in-Some-cut
returns-in-Some-cut c = rw (c.in-Some.ensures, c.in-Some-cut.ensures, sentence_five)
