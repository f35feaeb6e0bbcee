-- `seats::procs_fit` meets its contract.
-- Assumes nothing.
use Rattle.procs.specs.Stands.{numbers}
use Rattle.queues.specs.Queue.{tables_of}
use Rattle.rings.proofs.Decisions.{decides_as}
use Rattle.seats.proofs.procs_fit.Goals as goal
use Rattle.seats.specs.Fits.{Topmost, Fits}
use lib.ListN.{get_or}
use mathlib.Core.Path.{sym, ◌∙◌}
use native.Mathlib.Omega.{arith}

pub returns-then-running-ge-PROCESSES : goal.returns-then-running-ge-PROCESSES
unfolding numbers
returns-then-running-ge-PROCESSES c = λ f. omega (arith, f.runner)

pub returns-then-not-seats_fit : goal.returns-then-not-seats_fit
unfolding numbers
returns-then-not-seats_fit c = λ f. c.if-not-seats_fit.ensures f.seats

pub returns-then-k-ready_word : goal.returns-then-k-ready_word
unfolding numbers tables_of
returns-then-k-ready_word c = λ f. c.if-k-ready_word.true (f.ready ∙ sym c.ready_word.ensures)

pub returns : goal.returns
unfolding numbers tables_of
returns c =
    let a = c.args in
    let k = numbers a.k in
    decides_as {P = Topmost k.running (get_or k.class k.running 0) k.ready} (Fits a.slice k a.at) c.is_topmost.result
    (λ t. record {
      runner = omega arith;
      seats = c.if-not-seats_fit.ensures;
      ready = c.if-k-ready_word.false ∙ c.ready_word.ensures;
      topmost = t;
    })
    (λ f. f.topmost)
    c.is_topmost.ensures
