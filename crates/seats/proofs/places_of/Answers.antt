-- `seats::places_of` meets its contract.
-- Assumes nothing.
use Rattle.queues.specs.Queue.{tables_of}
use Rattle.seats.proofs.Answers.{found}
use Rattle.seats.proofs.places_of.Goals as goal
use borrow.Author.Rules.{rules}
use lib.ListN.{length}
use mathlib.Core.Path.{◌≡◌}

pub returns : goal.returns
unfolding tables_of
returns c =
    let on = c.bytes_of in
    let back = c.bytes_of-2 in
    let long : length on.result ≡ 69 = search rules in
    rw (← on.ensures, ← back.ensures) (found (record { next = on.result; prev = back.result }) long c.standing.result c.standing.ensures)
