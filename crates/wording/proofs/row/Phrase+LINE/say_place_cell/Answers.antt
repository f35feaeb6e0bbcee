-- `wording::row::Phrase+LINE::say_place_cell` meets its contract.
-- Assumes nothing.
use Rattle.wording.proofs.PageLaws.{alone, stands_short, Sized}
use Rattle.wording.proofs.row.Phrase+LINE.say_place_cell.Goals as goal
use Rattle.wording.specs.Page.{stands}
use borrow.Author.Rules.{rules}
use native.Mathlib.Omega.{arith}

pub returns : goal.returns
returns c =
    let sized : Sized c.args.row = record { which = search rules; position = search rules; class = search rules; ticks = search rules; length = search rules } in
    rw (c.say_cell.ensures, c.say_stands.ensures, c.new.ensures, alone (stands c.args.row) (omega (arith, stands_short c.args.row sized)))
