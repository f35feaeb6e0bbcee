-- `wording::row::Phrase+LINE::say_name_cell` meets its contract.
-- Assumes nothing.
use Prim.Native.Nat.{ℕ}
use Rattle.answers.proofs.TextLaws.{decimal_short}
use Rattle.answers.specs.Answer.{decimal}
use Rattle.wording.proofs.PageLaws.{alone}
use Rattle.wording.proofs.row.Phrase+LINE.say_name_cell.Goals as goal
use Rattle.wording.specs.Page.{cell}
use Rattle.wording.specs.Promises.{more}
use borrow.Author.Rules.{rules}
use mathlib.Core.List.{List}
use mathlib.Core.Path.{ap}
use native.Mathlib.Omega.{arith}

pub returns : goal.returns
returns c =
    let s = c.args in
    let n = c.name_of-n in
    let whole = alone (decimal n.result) (omega (arith, decimal_short n.result (search rules))) in
    rw (c.say_cell.ensures, ← n.ensures, c.say_decimal.ensures, c.new.ensures) (ap (λ (l : List ℕ). more s.self (cell s.width l)) whole)
