-- `listing::sheet_of` meets its contract. Assumes nothing.
use Rattle.image.proofs.Types.{sized}
use Rattle.listing.proofs.Sheets.{no_rows, all_rows}
use Rattle.listing.proofs.sheet_of.Goals as goal
use Rattle.std.specs.Prelude.{is_err}
use Rattle.verdicts.proofs.Chained.{told_err, told_ok}
use mathlib.Core.Path.{ap}

pub returns-in-Ok : goal.returns-in-Ok
returns-in-Ok c =
    let read = c.read-k in
    all_rows _ (sized _ _ read.type_inv) read.ensures c.judge-v.ensures c.answer_found-answer.ensures (told_ok c.judge-v.result (ap is_err c.in-Ok.is)) c.table_of.result c.table_of.ensures

pub returns-in-Err : goal.returns-in-Err
returns-in-Err c =
    let read = c.read-k in
    no_rows _ (sized _ _ read.type_inv) read.ensures c.judge-v.ensures c.answer_found-answer.ensures (told_err c.judge-v.result (ap is_err c.in-Err.is))
