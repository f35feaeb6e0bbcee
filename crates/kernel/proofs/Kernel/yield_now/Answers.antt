-- `kernel::Kernel::yield_now` meets its contract. Assumes nothing.
use Rattle.kernel.proofs.Changes.{slice_is, moved_holds}
use Rattle.kernel.proofs.Judging.{refused_plainly, accepted_plainly, gives}
use Rattle.kernel.proofs.Kernel.yield_now.Goals as goal
use Rattle.kernel.proofs.Verdicts.{judged_yield}
use Rattle.plain.specs.Calls as Plain
use Rattle.plain_laws.proofs.Frames.{slice_some}
use Rattle.procs.proofs.Kept.{yielded_kept}
use borrow.Author.Tests.{eqb-false}
use mathlib.Core.List.{[]}

pub returns-in-Err : goal.returns-in-Err
returns-in-Err c = refused_plainly Plain.yield c.in-Err.r (judged_yield c.facts-f.ensures c.in-Err.ensures) c.refuse.ensures

pub returns : goal.returns
unfolding Plain.perform Plain.refusals
returns c = accepted_plainly Plain.yield c.in_default.field-0 (judged_yield c.facts-f.ensures c.in_default.ensures) (λ s H S x.
    gives 0 0 [] _ c.answer.ensures (rw c.with_procs-next.ensures
    (moved_holds H (rw (c.yield_now.ensures, c.facts-f.ensures.slice, slice_is H) (yielded_kept H.procs (slice_some s S) S.seated S.highest (eqb-false _ _ x.0))))))
