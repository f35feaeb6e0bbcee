-- `verdicts::on_class` meets its contract. Assumes nothing.
use Rattle.verdicts.proofs.Chained.{both}
use Rattle.verdicts.proofs.on_class.Goals as goal

pub returns : goal.returns
returns c = both _ _ _ _ c.and.ensures c.on_idle.ensures c.refuse_if.ensures
