-- `stock::queued` meets its contract. Assumes nothing.
use Rattle.stock.proofs.Answers.{queued_from}
use Rattle.stock.proofs.queued.Goals as goal
use borrow.Author.Rules.{rules}

pub returns : goal.returns
returns c =
    let a = c.args in
    queued_from a.next.now a.prev.now (search rules) c.standing.result c.standing.ensures
