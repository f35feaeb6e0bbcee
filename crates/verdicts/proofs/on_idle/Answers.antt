-- `verdicts::on_idle` meets its contract. Assumes nothing.
use Rattle.verdicts.proofs.Chained.{both}
use Rattle.verdicts.proofs.on_idle.Goals as goal

pub returns : goal.returns
returns c = both _ _ _ _ c.and.ensures c.sound.ensures (rw c.eq.ensures at c.refuse_if.ensures)
