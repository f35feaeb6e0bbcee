-- `wording::row::row_line` meets its contract.
-- Assumes nothing.
use Prim.Native.Nat.{ℕ}
use Rattle.names.specs.Counts.{count_in}
use Rattle.plain.specs.Names.{name}
use Rattle.wording.proofs.PageLaws.{name_small, row-line-whole, Sized}
use Rattle.wording.proofs.row.row_line.Goals as goal
use borrow.Author.Rules.{rules}
use mir.Syntax.{w8}
use mir.Val.{Fits}

pub returns : goal.returns
returns c =
    let sized : Sized c.args.row = record { which = search rules; position = search rules; class = search rules; ticks = search rules; length = search rules } in
    let low : (p : ℕ) → Fits w8 (count_in c.args.births p) = λ p. search rules in
    let births = count_in c.args.births in
    rw (c.say.ensures, c.say_hand.ensures, c.say_number_cell-ticks.ensures, c.say_number_cell-class.ensures, c.say_place_cell-place.ensures, c.say_name_cell-named.ensures, c.say_number_cell-who.ensures, c.new.ensures)
    (row-line-whole (name births) c.args.process c.args.row c.ranges.process.fits (name_small births c.args.process c.ranges.process.fits (low c.args.process).fits) sized)
