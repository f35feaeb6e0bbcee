-- `verdicts::on_read` meets its contract. Assumes nothing.
use Rattle.verdicts.proofs.Chained.{ends, goes_on}
use Rattle.verdicts.proofs.on_read.Goals as goal
use Rattle.plain.specs.Sizes.{store_size}

pub returns-in_err-sound : goal.returns-in_err-sound
unfolding store_size
returns-in_err-sound c = ends _ _ _ _ c.from_residual.ensures.1 c.in_err-sound.ensures

pub returns-in_err-refuse_if : goal.returns-in_err-refuse_if
unfolding store_size
returns-in_err-refuse_if c = ends _ _ _ _ c.from_residual-in_err-refuse_if.ensures.1 (goes_on _ _ _ _ c.in_ok-sound.ensures c.in_err-refuse_if.ensures)

pub returns-in_err-refuse_if-2 : goal.returns-in_err-refuse_if-2
unfolding store_size
returns-in_err-refuse_if-2 c = ends _ _ _ _ c.from_residual-in_err-refuse_if-2.ensures.1 (goes_on _ _ _ _ (goes_on _ _ _ _ c.in_ok-sound.ensures c.in_ok-refuse_if.ensures) (rw c.eq.ensures at c.in_err-refuse_if-2.ensures))

pub returns-in_err-refuse_if-3 : goal.returns-in_err-refuse_if-3
unfolding store_size
returns-in_err-refuse_if-3 c = ends _ _ _ _ c.from_residual-in_err-refuse_if-3.ensures.1 (goes_on _ _ _ _ (goes_on _ _ _ _ (goes_on _ _ _ _ c.in_ok-sound.ensures c.in_ok-refuse_if.ensures) (rw c.eq.ensures at c.in_ok-refuse_if-2.ensures)) c.in_err-refuse_if-3.ensures)

pub returns : goal.returns
unfolding store_size
returns c = goes_on _ _ _ _ (goes_on _ _ _ _ (goes_on _ _ _ _ (goes_on _ _ _ _ c.in_ok-sound.ensures c.in_ok-refuse_if.ensures) (rw c.eq.ensures at c.in_ok-refuse_if-2.ensures)) c.in_ok-refuse_if-3.ensures) c.refuse_if-4.ensures
