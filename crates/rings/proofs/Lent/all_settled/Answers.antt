-- `rings::Lent::all_settled` meets its contract. Assumes nothing.
use Rattle.rings.proofs.Folds.{decides_fold}
use Rattle.rings.proofs.Lent.all_settled.Goals as goal
use Rattle.rings.specs.Walk.{Settled, tables}
use Rattle.std.proofs.Common.{rules}

pub returns : goal.returns
returns c =
    let a = c.args in
    decides_fold (Settled (tables a.self.now.next.now a.self.now.prev.now) a.at.now) c.fold.ensures.ran (λ i a b h k. search rules) (λ i a h o k. search rules) (λ i h o k. search rules)
