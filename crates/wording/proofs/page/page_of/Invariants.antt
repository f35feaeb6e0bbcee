-- `wording::page::page_of` meets its contract. The loop's invariant: the page is the header and the lines of the first `i` processes, and each line is short.
-- Assumes nothing.
use Rattle.names.specs.Counts.{count_in}
use Rattle.plain.specs.Names.{name}
use Rattle.wording.proofs.PageLaws.{Said}
use Rattle.wording.proofs.page.page_of.Given as goal
use Rattle.wording.specs.Page.{row_at}

abbrev pub invariant-loop-i : goal.invariant-loop-i
invariant-loop-i l = Said (name (count_in l.births)) (row_at l.rows) l.i l.text
