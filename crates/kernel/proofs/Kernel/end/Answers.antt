-- `kernel::Kernel::end` meets its contract. Assumes nothing.
use Rattle.kernel.proofs.Changes.{stopped_holds}
use Rattle.kernel.proofs.Judging.{refused_plainly, accepted_plainly, gives, runner_is}
use Rattle.kernel.proofs.Kernel.end.Goals as goal
use Rattle.kernel.proofs.Verdicts.{judged_end}
use Rattle.plain.specs.Calls as Plain
use Rattle.plain_laws.proofs.Seats.{runner_range}
use borrow.Author.Tests.{eqb-false}
use mathlib.Core.List.{[]}
use mathlib.Core.Logic.{◌≢◌}
use mathlib.Core.Path.{◌∙◌}
use native.Mathlib.Omega.{arith}

pub returns-in-Err : goal.returns-in-Err
returns-in-Err c = refused_plainly Plain.end c.in-Err.r (judged_end c.facts-f.ensures c.in-Err.ensures) c.refuse.ensures

pub returns : goal.returns
unfolding Plain.perform Plain.refusals
returns c = accepted_plainly Plain.end c.in_default.field-0 (judged_end c.facts-f.ensures c.in_default.ensures) (λ s H S x.
    let z : s.procs.running ≢ 0 = eqb-false _ _ x.0 in
    gives 0 0 [] _ c.answer.ensures (stopped_holds H S s.procs.running (c.facts-f.ensures.runner ∙ runner_is _ s H) (omega arith) (runner_range s.settings.slice s.procs S.seated) c.stopped.ensures))
