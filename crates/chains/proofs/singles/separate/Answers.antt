-- `chains::singles::separate` meets its contract. Assumes nothing.
use Rattle.chains.proofs.singles.separate.Goals as goal
use Rattle.chains.specs.Led.{after}
use Rattle.chains.specs.Links.{num}
use Rattle.rings.proofs.Folds.{decides_fold}
use Rattle.rings.proofs.Units.{entry}
use Rattle.std.proofs.Common.{rules}
use mathlib.Core.List.{map}
use mathlib.Core.Path.{◌≡◌, refl}

pub returns : goal.returns
returns c =
    let t = c.args.chain.now in
    let e = entry num (record { 0 = 0 }) refl t in
    decides_fold (λ i. after (map num t) i ≡ i) c.fold.ensures.ran (λ i a b h k. search rules) (λ i a h o k. search (rules, e i)) (λ i h o k. search (rules, e i))
