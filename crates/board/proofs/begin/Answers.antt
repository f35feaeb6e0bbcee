-- `board::begin` meets its contract. Assumes nothing.
use Rattle.board.proofs.Begins.{begins_elsewhere, begins-refused, begins-anew}
use Rattle.board.proofs.begin.Goals as goal
use mathlib.Core.Path.{refl}

pub returns-then-state-ne-SIZE : goal.returns-then-state-ne-SIZE
returns-then-state-ne-SIZE c = begins_elsewhere c.args.state.now c.if-state-ne-SIZE.true refl (rw c.code.ensures refl)

pub returns-then-done-ne-DONE : goal.returns-then-done-ne-DONE
returns-then-done-ne-DONE c = begins-refused _ _ c.fresh_start-done.result c.if-state-ne-SIZE.false c.fresh_start-done.ensures c.if-done-ne-DONE.true refl refl

pub returns : goal.returns
returns c = begins-anew _ _ c.fresh_start-done.result c.if-state-ne-SIZE.false c.fresh_start-done.ensures c.if-done-ne-DONE.false c.hand_back.ensures
