-- `verdicts::on_listing` meets its contract. Assumes nothing.
use Rattle.verdicts.proofs.Chained.{both}
use Rattle.verdicts.proofs.on_listing.Goals as goal

pub returns : goal.returns
returns c = both _ _ _ _ c.and.ensures c.refuse_if.ensures c.refuse_if-2.ensures
