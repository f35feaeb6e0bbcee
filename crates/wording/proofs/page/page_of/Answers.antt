-- `wording::page::page_of` meets its contract. The loop's invariant: the page is the header and the lines of the first `i` processes, and each line is short.
-- Assumes nothing.
use Rattle.names.specs.Counts.{count_in}
use Rattle.plain.specs.Names.{name}
use Rattle.plain.specs.Sizes.{processes}
use Rattle.wording.proofs.PageLaws.{header_said, line_said, page_said}
use Rattle.wording.proofs.page.page_of.Goals as goal
use Rattle.wording.specs.Page.{unused_line, row_at}
use mathlib.Core.Path.{◌≡◌, ap, ◌∙◌}
use native.Mathlib.Omega.{arith}

pub loop-i-init : goal.loop-i-init
loop-i-init c =
    let s = c.args in
    let text = c.text.ensures in
    header_said (name (count_in s.births)) (row_at s.rows) (rw c.requires at c.add.ensures) (text.whole ∙ c.header.ensures) (rw text.whole text.short)

pub loop-i-preserved : goal.loop-i-preserved
loop-i-preserved c =
    let s = c.args in
    let text = c.text-in-loop-i.ensures in
    line_said (name (count_in s.births)) (row_at s.rows) c.loop-i.i c.loop-i.invariant c.add-in-loop-i.ensures (text.whole ∙ c.line_of-line.ensures) (rw text.whole text.short)

pub returns : goal.returns
returns c =
    let s = c.args in
    let text = c.text-2.ensures in
    let all : c.loop-i.i ≡ processes = omega arith in
    page_said (name (count_in s.births)) (row_at s.rows) (rw all at c.loop-i.invariant) c.add-2.ensures (text.whole ∙ c.unused_line.ensures ∙ ap unused_line c.unused_in.ensures) (rw text.whole text.short)
