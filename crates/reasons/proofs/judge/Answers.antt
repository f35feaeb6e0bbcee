-- `reasons::judge` meets its contract. Assumes nothing.
use Rattle.reasons.proofs.Reasons.{judged-why}
use Rattle.reasons.proofs.judge.Goals as goal

pub returns : goal.returns
returns c = judged-why c.args.name c.facts.result.sound c.facts.ensures.sound c.is_name.ensures c.on_why.ensures
