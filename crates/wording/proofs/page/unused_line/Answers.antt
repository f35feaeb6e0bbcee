-- `wording::page::unused_line` meets its contract.
-- Assumes nothing.
use Rattle.answers.specs.Ascii.{ascii}
use Rattle.wording.proofs.PageLaws.{alone, many_unused}
use Rattle.wording.proofs.page.unused_line.Goals as goal
use Rattle.wording.specs.Page.{newline, unused_line}
use borrow.Author.Rules.{rules}
use borrow.Author.Tests.{ne_eqb}
use mathlib.Core.List.{◌++◌, ◌∷◌, []}
use native.Mathlib.Omega.{arith}

pub returns-in-0 : goal.returns-in-0
unfolding unused_line
returns-in-0 c = rw (c.in-0.is, c.say.ensures, c.new.ensures) (alone (ascii "No process is unused." ++ (newline ∷ [])) (omega arith))

pub returns-in-1 : goal.returns-in-1
unfolding unused_line
returns-in-1 c = rw (c.in-1.is, c.say-in-1.ensures, c.new-in-1.ensures) (alone (ascii "1 process is unused." ++ (newline ∷ [])) (omega arith))

pub returns-in_default : goal.returns-in_default
unfolding unused_line
returns-in_default c =
    rw (ne_eqb c.args.n 0 (search rules), ne_eqb c.args.n 1 (search rules), c.say-in_default.ensures, c.say_number.ensures, c.new-in_default.ensures) (many_unused c.args.n c.ranges.n.fits)
