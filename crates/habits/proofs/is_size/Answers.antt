-- `habits::is_size` meets its contract. Assumes nothing.
use Rattle.habits.proofs.is_size.Goals as goal
use Rattle.habits.specs.Size.{Size}
use Rattle.plain.specs.Mailboxes.{most_queued}
use Rattle.rings.proofs.Decisions.{decides}
use native.Mathlib.Omega.{arith}

pub returns : goal.returns
unfolding most_queued
returns c =
    decides {P = Size c.args.capacity c.args.mode} _
    (λ e. record { some = grind (arith, e); most = grind (arith, e); of_two = grind (arith, e) })
    (λ e w. grind (arith, e, w.some, w.most, w.of_two))
