-- `status::showing::tell` meets its contract.
-- Assumes nothing.
use Rattle.status.proofs.showing.tell.Goals as goal
use Rattle.status.specs.Promise.{Shown}
use Rattle.telling.proofs.Laws.{gives_as, of_none, of_some}
use Rattle.std.proofs.Common.{rules, ◌≡◌, length}
use native.Mathlib.Omega.{arith}

pub returns-then-is_empty : goal.returns-then-is_empty
returns-then-is_empty c =
    let area = c.args.state.now in
    let none : length area ≡ 0 = search rules in
    gives_as (omega arith) (of_none area (Shown area) none) c.no_state.ensures

pub returns : goal.returns
returns c =
    let area = c.args.state.now in
    let some : length area ≡ 0 → ⊥ = search rules in
    gives_as (omega arith) (of_some area (Shown area) some) c.show.ensures
