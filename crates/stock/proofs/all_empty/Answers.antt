-- `stock::all_empty` meets its contract. Assumes nothing.
use Rattle.boxes.specs.Box.{num}
use Rattle.rings.proofs.Folds.{decides_fold}
use Rattle.rings.proofs.Units.{entry}
use Rattle.std.proofs.Common.{rules}
use Rattle.stock.proofs.all_empty.Goals as goal
use lib.ListN.{get_or}
use mathlib.Core.List.{map}
use mathlib.Core.Path.{◌≡◌, refl}

pub returns : goal.returns
returns c =
    let t = c.args.hand.now in
    let e = entry num (record { 0 = 0 }) refl t in
    decides_fold (λ i. get_or (map num t) i 0 ≡ 0) c.fold.ensures.ran (λ i a b h k. search rules) (λ i a h o k. search (rules, e i)) (λ i h o k. search (rules, e i))
