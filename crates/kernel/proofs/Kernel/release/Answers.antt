-- `kernel::Kernel::release` meets its contract. Assumes nothing.
use Rattle.kernel.proofs.Changes.{mailed_holds, released_carried}
use Rattle.kernel.proofs.Judging.{refused_plainly, accepted_plainly, gives, runner_is}
use Rattle.kernel.proofs.Kernel.release.Goals as goal
use Rattle.kernel.proofs.Verdicts.{judged_release}
use Rattle.mail.specs.Moves.{has_message}
use Rattle.plain.specs.Calls as Plain
use mathlib.Core.List.{[]}
use mathlib.Core.Path.{◌∙◌, ap}

pub returns-in-Err : goal.returns-in-Err
unfolding Plain.refusals
returns-in-Err c = refused_plainly Plain.release c.in-Err.r (judged_release c.facts-f.ensures (c.has_message.ensures ∙ ap (has_message _) c.facts-f.ensures.runner) c.in-Err.ensures) c.refuse.ensures

pub returns : goal.returns
unfolding Plain.perform Plain.refusals
returns c = accepted_plainly Plain.release c.in_default.field-0 (judged_release c.facts-f.ensures (c.has_message.ensures ∙ ap (has_message _) c.facts-f.ensures.runner) c.in_default.ensures) (λ s H S x.
    gives 0 0 [] _ c.answer.ensures (rw c.with_mail.ensures (mailed_holds H (rw (c.let_go.ensures, c.facts-f.ensures.runner, runner_is _ s H) (released_carried H S)))))
