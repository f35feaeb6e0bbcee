-- `reasons::why` meets its contract. Assumes nothing.
use Prim.Native.Nat.{ℕ, ◌<◌}
use Rattle.plain.specs.Names.{bare}
use Rattle.plain.specs.Sizes.{processes}
use Rattle.reasons.proofs.Reasons.{low, refused, accepted}
use Rattle.reasons.proofs.why.Goals as goal
use Rattle.std.specs.Prelude.{is_err}
use Rattle.verdicts.proofs.Chained.{told_err, told_ok}
use mathlib.Core.Path.{ap}
use native.Mathlib.Omega.{arith}

pub overflow_cast-bare : goal.overflow_cast-bare
overflow_cast-bare c = let n : ℕ = c.args.name in
    let h : bare n < processes = low _ n _ c.judge-v.ensures (told_ok c.judge-v.result (ap is_err c.in-Ok.is)) in
    omega (arith, c.bare.ensures)

pub returns-in-Ok : goal.returns-in-Ok
returns-in-Ok c = accepted _ _ _ c.judge-v.ensures _ _ (told_ok c.judge-v.result (ap is_err c.in-Ok.is)) c.answer_found-answer.ensures (rw (← c.bare.ensures) c.reason_of.ensures)

pub returns-in-Err : goal.returns-in-Err
returns-in-Err c = refused _ _ _ c.judge-v.ensures _ (told_err c.judge-v.result (ap is_err c.in-Err.is)) c.answer_found-answer.ensures
