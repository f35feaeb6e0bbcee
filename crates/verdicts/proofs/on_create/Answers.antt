-- `verdicts::on_create` meets its contract. Assumes nothing.
use Rattle.verdicts.proofs.Chained.{ends, goes_on}
use Rattle.verdicts.proofs.on_create.Goals as goal

pub returns-in_err-sound : goal.returns-in_err-sound
returns-in_err-sound c = ends _ _ _ _ c.from_residual.ensures.1 c.in_err-sound.ensures

pub returns-in_err-refuse_if : goal.returns-in_err-refuse_if
returns-in_err-refuse_if c = ends _ _ _ _ c.from_residual-in_err-refuse_if.ensures.1 (goes_on _ _ _ _ c.in_ok-sound.ensures c.in_err-refuse_if.ensures)

pub returns : goal.returns
returns c = goes_on _ _ _ _ (goes_on _ _ _ _ c.in_ok-sound.ensures c.in_ok-refuse_if.ensures) c.refuse_if-2.ensures
