-- `why::explaining::about` meets its contract.
-- Assumes nothing.
use Rattle.telling.proofs.Laws.{gives_as, of_none, of_some}
use Rattle.why.proofs.explaining.about.Goals as goal
use Rattle.why.specs.Promise.{Explained}
use Rattle.std.proofs.Common.{rules, ◌≡◌, length}
use native.Mathlib.Omega.{arith}

pub returns-then-is_empty : goal.returns-then-is_empty
returns-then-is_empty c =
    let s = c.args in
    let none : length s.state.now ≡ 0 = search rules in
    gives_as (omega arith) (of_none s.state.now (Explained s.state.now s.name) none) c.no_state.ensures

pub returns : goal.returns
returns c =
    let s = c.args in
    let some : length s.state.now ≡ 0 → ⊥ = search rules in
    gives_as (omega arith) (of_some s.state.now (Explained s.state.now s.name) some) c.explain.ensures
