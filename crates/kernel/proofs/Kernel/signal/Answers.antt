-- `kernel::Kernel::signal` meets its contract. Assumes nothing.
use Prim.Native.Nat.{◌%◌}
use Rattle.kernel.proofs.Changes.{signalled_holds}
use Rattle.kernel.proofs.Judging.{refused_plainly, accepted_plainly, gives}
use Rattle.kernel.proofs.Kernel.signal.Goals as goal
use Rattle.kernel.proofs.Verdicts.{judged_signal}
use Rattle.plain.specs.Calls as Plain
use borrow.Author.Tests.{leb-false, eqb-false}
use mathlib.Core.List.{[]}
use mathlib.Core.Path.{◌≡◌}
use native.Mathlib.Omega.{arith}

pub returns-in-Err : goal.returns-in-Err
returns-in-Err c = refused_plainly (Plain.signal _) c.in-Err.r (judged_signal c.facts-f.ensures c.args.i c.count_of.ensures c.in-Err.ensures) c.refuse.ensures

pub returns : goal.returns
unfolding Plain.perform Plain.refusals
returns c = accepted_plainly (Plain.signal _) c.in_default.field-0 (judged_signal c.facts-f.ensures c.args.i c.count_of.ensures c.in_default.ensures) (λ s H S x.
    let low = leb-false _ _ x.0 in
    let e : c.args.i % 16 ≡ c.args.i = omega (arith, low) in
    let twice : c.args.i % 16 % 16 ≡ c.args.i = omega (arith, low) in
    gives 0 0 [] _ c.answer.ensures (signalled_holds H S c.args.i low (eqb-false _ _ x.1.0) (rw (twice, e, c.facts-f.ensures.slice) at c.signalled.ensures)))
