-- `habits::may_be_set` meets its contract. Assumes nothing.
use Rattle.habits.proofs.Laws.{each-habits, habits-each}
use Rattle.habits.proofs.may_be_set.Goals as goal
use Rattle.habits.specs.Size.{Size}
use Rattle.plain.specs.Sizes.{mailboxes}
use Rattle.rings.proofs.Decisions.{decides_as}
use Rattle.rings.proofs.Folds.{decides_fold}
use borrow.Author.Rules.{rules}
use lib.ListN.{length, get_or}
use mathlib.Core.Path.{◌≡◌}
use native.Mathlib.Omega.{arith}

pub returns : goal.returns
returns c =
    let a = c.args in
    let long : length a.capacity ≡ mailboxes = search rules in
    let long' : length a.mode ≡ mailboxes = search rules in
    decides_as _ c.fold.result
    (λ f. each-habits a.capacity a.mode long long' (λ m h. f m (omega arith)))
    (λ s m h. habits-each a.capacity a.mode long long' s m (omega arith))
    (decides_fold (λ m. Size (get_or a.capacity m 0) (get_or a.mode m 0)) c.fold.ensures.ran (λ i a b h k. search rules) (λ i a h o k. search rules) (λ i h o k. search rules))
