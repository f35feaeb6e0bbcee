-- `verdicts::on_signal` meets its contract. Assumes nothing.
use Rattle.verdicts.proofs.Chained.{ends, goes_on}
use Rattle.verdicts.proofs.on_signal.Goals as goal
use Rattle.plain.specs.Sizes.{highest_count}

pub returns-in_err-sound : goal.returns-in_err-sound
unfolding highest_count
returns-in_err-sound c = ends _ _ _ _ c.from_residual.ensures.1 c.in_err-sound.ensures

pub returns-in_err-refuse_if : goal.returns-in_err-refuse_if
unfolding highest_count
returns-in_err-refuse_if c = ends _ _ _ _ c.from_residual-in_err-refuse_if.ensures.1 (goes_on _ _ _ _ c.in_ok-sound.ensures c.in_err-refuse_if.ensures)

pub returns : goal.returns
unfolding highest_count
returns c = goes_on _ _ _ _ (goes_on _ _ _ _ c.in_ok-sound.ensures c.in_ok-refuse_if.ensures) c.refuse_if-2.ensures
