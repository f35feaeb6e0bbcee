-- `script::numbers::read_number` meets its contract: where a digit is refused, there is no number.
-- Assumes nothing.
use Rattle.script.proofs.NumberLaws.{digit-bad}
use Rattle.script.proofs.numbers.read_number.Goals as goal
use borrow.Author.Rules.{rules}
use lib.ListN.{get_or}

pub returns-in_err-v : goal.returns-in_err-v
returns-in_err-v c =
    let w = c.args.w.now in
    let l = c.loop-x in
    let x = get_or w l.x-index 0 in
    let e = digit-bad w l.v l.x-index c.loop-x-test.true l.invariant.1 c.next_digit.ensures c.in_err-v.was in
    rw e (search rules)
