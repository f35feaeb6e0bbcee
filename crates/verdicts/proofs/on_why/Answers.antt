-- `verdicts::on_why` meets its contract. Assumes nothing.
use Rattle.verdicts.proofs.Chained.{both}
use Rattle.verdicts.proofs.on_why.Goals as goal

pub returns : goal.returns
returns c = both _ _ _ _ c.and.ensures c.sound.ensures c.refuse_if.ensures
