-- `stock::buffers_fit` meets its contract. Assumes nothing.
use Rattle.rings.proofs.Folds.{decides_fold}
use Rattle.std.proofs.Common.{rules}
use Rattle.stock.proofs.buffers_fit.Goals as goal
use Rattle.stock.specs.Tests.{BufferFits}
use lib.ListN.{get_or}

pub returns : goal.returns
returns c =
    let a = c.args in
    decides_fold (λ b. BufferFits (get_or a.at b 0) (get_or a.length b 0)) c.fold.ensures.ran (λ i a b h k. search rules) (λ i a h o k. search rules) (λ i h o k. search rules)
