-- `kernel::Kernel::tick` meets its contract. Assumes nothing.
use Rattle.kernel.proofs.Changes.{slice_is, moved_holds}
use Rattle.kernel.proofs.Judging.{refused_plainly, accepted_plainly, gives}
use Rattle.kernel.proofs.Kernel.tick.Goals as goal
use Rattle.kernel.proofs.Verdicts.{judged_tick}
use Rattle.plain.specs.Calls as Plain
use Rattle.plain_laws.proofs.Frames.{slice_some}
use Rattle.procs.proofs.Kept.{ticked_kept}
use mathlib.Core.List.{[]}

pub returns-in-Err : goal.returns-in-Err
unfolding Plain.refusals
returns-in-Err c = refused_plainly Plain.tick c.in-Err.r (judged_tick c.facts-f.ensures c.in-Err.ensures) c.refuse.ensures

pub returns : goal.returns
unfolding Plain.perform Plain.refusals
returns c = accepted_plainly Plain.tick c.in_default.field-0 (judged_tick c.facts-f.ensures c.in_default.ensures) (λ s H S x.
    gives 0 0 [] _ c.answer.ensures (rw c.with_procs.ensures (moved_holds H (rw (c.tick.ensures, c.facts-f.ensures.slice, slice_is H) (ticked_kept H.procs (slice_some s S) S.seated S.highest)))))
