-- `status::showing::show` meets its contract.
-- Assumes nothing.
use Rattle.image.proofs.Types.{sized}
use Rattle.status.proofs.Laws.{is_known, is_not_sound}
use Rattle.status.proofs.showing.show.Goals as goal
use Rattle.telling.proofs.Laws.{gives_as}
use native.Mathlib.Omega.{arith}

pub returns-in_default : goal.returns-in_default
returns-in_default c =
    let s = c.args in
    let l = c.sheet_of-sheet in
    gives_as (omega arith) (is_not_sound s.state.now l.result c.in_default.is l.ensures) c.not_sound.ensures

pub returns : goal.returns
returns c =
    let s = c.args in
    let page = c.put_page-length in
    record { text = _; is = is_known s.state.now c.sheet_of-sheet.result (sized _ _ c.read.type_inv) c.read.ensures _ c.in-Some.is c.sheet_of-sheet.ensures; short = page.ensures.short; written = page.ensures.written }
