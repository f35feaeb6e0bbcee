-- `kernel::Kernel::stop` meets its contract. Assumes nothing.
use Prim.Native.Nat.{◌%◌}
use Rattle.kernel.proofs.Changes.{stopped_holds}
use Rattle.kernel.proofs.Judging.{refused_plainly, accepted_plainly, gives}
use Rattle.kernel.proofs.Kernel.stop.Goals as goal
use Rattle.kernel.proofs.Verdicts.{judged_stop}
use Rattle.plain.specs.Calls as Plain
use Rattle.plain.specs.Names.{bare}
use Rattle.plain_laws.proofs.Calls.{somebody}
use mathlib.Core.List.{[]}
use mathlib.Core.Path.{◌≡◌}
use native.Mathlib.Omega.{arith}

pub returns-in-Err : goal.returns-in-Err
returns-in-Err c = refused_plainly (Plain.stop _) c.in-Err.r (judged_stop c.facts-f.ensures c.args.name c.bare-p.ensures c.is_name-named.ensures c.is_unused.ensures c.in-Err.ensures) c.refuse.ensures

pub returns : goal.returns
unfolding Plain.perform Plain.refusals
returns c = accepted_plainly (Plain.stop _) c.in_default.field-0 (judged_stop c.facts-f.ensures c.args.name c.bare-p.ensures c.is_name-named.ensures c.is_unused.ensures c.in_default.ensures) (λ s H S x.
    let w = somebody c.args.name s x.0 in
    let e : c.bare-p.result % 32 ≡ bare c.args.name = omega (arith, w.1, c.bare-p.ensures) in
    gives 0 0 [] _ c.answer.ensures (stopped_holds H S (bare c.args.name) e w.0 w.1 c.stopped.ensures))
