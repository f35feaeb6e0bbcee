-- `why::explaining::explain` meets its contract. Assumes nothing.
use Prim.Native.Nat.{◌<◌}
use Rattle.plain.specs.Names.{bare}
use Rattle.plain.specs.Sizes.{processes}
use Rattle.telling.proofs.Laws.{gives_as}
use Rattle.why.proofs.Laws.{is_process, is_known, is_not_sound, is_nobody}
use Rattle.why.proofs.explaining.explain.Goals as goal
use mathlib.Core.Path.{◌∙◌}
use native.Mathlib.Omega.{arith}

pub returns-then-w-code : goal.returns-then-w-code
returns-then-w-code c = let s = c.args in
    let w = c.why-w in
    gives_as (omega arith) (is_not_sound s.state.now s.name w.result (c.if-w-code.true ∙ c.code.ensures) w.ensures) c.not_sound.ensures

pub returns-in_default : goal.returns-in_default
returns-in_default c = let s = c.args in
    let w = c.why-w in
    gives_as (omega arith) (is_nobody s.state.now s.name w.result (rw (← c.code.ensures) c.if-w-code.false) c.in_default.is w.ensures) c.refuse.ensures

pub overflow_cast-p : goal.overflow_cast-p
overflow_cast-p c = let s = c.args in
    let w = c.why-w in
    let low : bare s.name < processes = is_process s.state.now s.name w.result _ c.in-Some.is w.ensures in
    omega (arith, c.bare-p.ensures)

pub returns : goal.returns
returns c = let s = c.args in
    let w = c.why-w in
    record { text = _; is = is_known s.state.now s.name w.result _ c.bare-p.ensures _ c.in-Some.is w.ensures; short = c.put_sentence-length.ensures.short; written = c.put_sentence-length.ensures.written }
