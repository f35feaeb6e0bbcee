-- `kernel::Kernel::fresh` meets its contract. Assumes nothing.
use Rattle.kernel.proofs.Fresh.{fresh_holds}
use Rattle.kernel.proofs.Kernel.fresh.Goals as goal
use Rattle.plain.specs.Sizes.{mailboxes}
use borrow.Author.Rules.{rules}
use lib.ListN.{length}
use mathlib.Core.Path.{◌≡◌, refl}

pub returns : goal.returns
returns c =
    let wide : (length c.args.settings.capacity ≡ mailboxes) × (length c.args.settings.mode ≡ mailboxes) = (search rules, search rules) in
    fresh_holds (record { procs = c.fresh.ensures; mail = c.fresh-2.ensures; count = refl; births = refl; settings = refl }) wide.0 wide.1
