-- `chains::walked::walks` meets its contract. Assumes nothing.
use Rattle.bits.specs.Word.{bits}
use Rattle.chains.proofs.Reading.{passed_none, passed_on, passed_stuck}
use Rattle.chains.proofs.walked.walks.Goals as goal

pub loop-b-init : goal.loop-b-init
loop-b-init c = passed_none _ _ _ _ c.busy-todo.ensures

pub returns-in_err-todo : goal.returns-in_err-todo
returns-in_err-todo c =
    let l = c.loop-b in
    rw c.from_residual.ensures (passed_stuck _ _ _ l.b (bits l.todo) l.invariant c.loop-b-test.true c.in_err-todo.ensures)

pub loop-b-preserved : goal.loop-b-preserved
loop-b-preserved c =
    let l = c.loop-b in
    passed_on _ _ _ l.b (bits l.todo) l.invariant c.in_ok-todo.todo c.in_ok-todo.ensures
