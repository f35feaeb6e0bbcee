-- `seats::seated` meets its contract.
-- Assumes nothing.
use Rattle.procs.specs.Stands.{numbers}
use Rattle.rings.proofs.Decisions.{decides_then_some}
use Rattle.seats.proofs.Answers.{unfit, fit}
use Rattle.seats.proofs.seated.Goals as goal
use Rattle.seats.specs.Seats.{Decision}
use borrow.Author.Rules.{rules}

pub returns-in_err-at : goal.returns-in_err-at
unfolding numbers
returns-in_err-at c = rw c.from_residual.ensures (λ s p. c.in_err-at.ensures s.queue p.keeps.stands.queues)

pub returns : goal.returns
unfolding numbers
returns c =
    let v = c.in_ok-at.ensures in
    rw c.then_some.ensures (decides_then_some (Decision c.args.slice (numbers c.args.k)) c.procs_fit.result c.in_ok-at.at
    (fit _ _ v.0 c.in_ok-at.at v.1 v.2 (search rules) (search rules) (search rules))
    (unfit _ _ v.0 c.in_ok-at.at v.1 v.2)
    c.procs_fit.ensures)
