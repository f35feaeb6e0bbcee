-- `chains::singles::all_single` meets its contract. Assumes nothing.
use Rattle.bits.specs.Word.{bits}
use Rattle.chains.proofs.singles.all_single.Goals as goal
use Rattle.chains.specs.Chained.{Single}
use Rattle.rings.proofs.Folds.{decides_fold}
use Rattle.std.proofs.Common.{rules}

pub returns : goal.returns
returns c =
    let a = c.args in
    decides_fold (Single a.need.now (bits a.free)) c.fold.ensures.ran (λ i a b h k. search rules) (λ i a h o k. search rules) (λ i h o k. search rules)
