-- `wording::put_page` meets its contract.
-- Assumes nothing.
use Rattle.answers.proofs.AreaLaws.{written_as}
use Rattle.wording.proofs.put_page.Goals as goal

pub returns : goal.returns
returns c =
    let put = c.put.ensures in
    record { written = written_as c.page_of.ensures put.written; short = rw (← c.page_of.ensures) put.short }
