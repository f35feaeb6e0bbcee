-- `kernel::Kernel::mailbox` meets its contract. Assumes nothing.
use Prim.Native.Nat.{◌%◌}
use Rattle.kernel.proofs.Fullness.{allotted_holds}
use Rattle.kernel.proofs.Judging.{refused_plainly, accepted_plainly, gives}
use Rattle.kernel.proofs.Kernel.mailbox.Goals as goal
use Rattle.kernel.proofs.Verdicts.{judged_mailbox}
use Rattle.plain.specs.Calls as Plain
use Rattle.plain.specs.Mailboxes.{most_queued}
use Rattle.plain.specs.Sizes.{mailboxes}
use Rattle.plain_laws.proofs.Relief.{size_passed}
use borrow.Author.Tests.{leb-false}
use mathlib.Core.List.{[]}
use mathlib.Core.Path.{◌≡◌}
use native.Mathlib.Omega.{arith}

pub returns-in-Err : goal.returns-in-Err
returns-in-Err c = refused_plainly (Plain.mailbox _ _ _) c.in-Err.r (judged_mailbox c.facts-f.ensures c.args.m c.args.capacity c.args.mode c.is_busy.ensures c.in-Err.ensures) c.refuse.ensures

pub returns : goal.returns
unfolding Plain.perform Plain.refusals most_queued
returns c = accepted_plainly (Plain.mailbox _ _ _) c.in_default.field-0 (judged_mailbox c.facts-f.ensures c.args.m c.args.capacity c.args.mode c.is_busy.ensures c.in_default.ensures) (λ s H S x.
    let z = size_passed c.args.capacity c.args.mode x.1.0 in
    let few : c.args.capacity % 256 ≡ c.args.capacity = omega (arith, z) in
    let either : c.args.mode % 256 ≡ c.args.mode = omega (arith, z) in
    gives 0 0 [] _ c.answer.ensures (rw (few, either) at (allotted_holds H c.args.m (c.args.capacity % 256) (c.args.mode % 256) (leb-false mailboxes c.args.m x.0) (rw c.allotted-next.ensures at c.with_settings.ensures))))
