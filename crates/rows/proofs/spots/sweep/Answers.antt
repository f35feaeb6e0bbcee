-- `rows::spots::sweep` meets its contract. The invariant: the first i queues are swept. Assumes nothing.
use Rattle.rows.proofs.Places.{swept_none, swept-more}
use Rattle.rows.proofs.spots.sweep.Goals as goal
use mathlib.Core.Path.{sym, ◌∙◌}

pub loop-i-init : goal.loop-i-init
loop-i-init c = sym (swept_none _ _ _ _)

pub loop-i-preserved : goal.loop-i-preserved
loop-i-preserved c =
    c.note.ensures ∙ rw (c.mark.ensures, c.loop-i.invariant) (sym (swept-more _ _ _ c.loop-i.i _))
