-- `wording::page::line_of` meets its contract.
-- Assumes nothing.
use Rattle.names.specs.Counts.{count_in}
use Rattle.plain.specs.Names.{name}
use Rattle.wording.proofs.PageLaws.{line-used, line-unused}
use Rattle.wording.proofs.page.line_of.Goals as goal
use mathlib.Core.Path.{sym, ◌∙◌}

pub returns-then-is_used : goal.returns-then-is_used
returns-then-is_used c =
    let s = c.args in
    c.row_line.ensures ∙ sym (line-used (name (count_in s.births)) s.process s.row (sym c.is_used.ensures ∙ c.if-is_used.true))

pub returns : goal.returns
returns c =
    let s = c.args in
    c.new.ensures ∙ sym (line-unused (name (count_in s.births)) s.process s.row (sym c.is_used.ensures ∙ c.if-is_used.false))
