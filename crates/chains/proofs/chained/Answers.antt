-- `chains::chained` meets its contract. Assumes nothing.
use Rattle.bits.specs.Word.{bits}
use Rattle.chains.proofs.Own.{decided_own}
use Rattle.chains.proofs.chained.Goals as goal
use Rattle.chains.specs.Links.{num}
use borrow.Author.Rules.{rules}
use mathlib.Core.List.{map}

pub returns-then-separate : goal.returns-then-separate
returns-then-separate c =
    let a = c.args in
    let s = c.separate in
    decided_own (map num a.chain.now) a.need.now (bits a.free.0) (rw c.if-separate.true at s.ensures) (search rules) c.all_single.result c.all_single.ensures
