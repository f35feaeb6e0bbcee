-- `kernel::Kernel::class` meets its contract. Assumes nothing.
use Prim.Native.Nat.{◌%◌}
use Rattle.kernel.proofs.Changes.{slice_is, moved_holds}
use Rattle.kernel.proofs.Judging.{refused_plainly, accepted_plainly, gives}
use Rattle.kernel.proofs.Kernel.class.Goals as goal
use Rattle.kernel.proofs.Verdicts.{judged_class}
use Rattle.plain.specs.Calls as Plain
use Rattle.plain_laws.proofs.Frames.{slice_some}
use Rattle.procs.proofs.Kept.{regraded_kept}
use borrow.Author.Tests.{leb-false, eqb-false}
use mathlib.Core.List.{[]}
use mathlib.Core.Path.{◌≡◌}
use native.Mathlib.Omega.{arith}

pub returns-in-Err : goal.returns-in-Err
returns-in-Err c = refused_plainly (Plain.class _) c.in-Err.r (judged_class c.facts-f.ensures c.args.class c.in-Err.ensures) c.refuse.ensures

pub returns : goal.returns
unfolding Plain.perform Plain.refusals
returns c = accepted_plainly (Plain.class _) c.in_default.field-0 (judged_class c.facts-f.ensures c.args.class c.in_default.ensures) (λ s H S x.
    let low = leb-false _ _ x.1.0 in
    let e : c.args.class % 256 ≡ c.args.class = omega (arith, low) in
    gives 0 0 [] _ c.answer.ensures (rw c.with_procs.ensures
    (moved_holds H (rw (c.change_class.ensures, e, c.facts-f.ensures.slice, slice_is H) (regraded_kept H.procs (slice_some s S) S.seated S.highest c.args.class (eqb-false _ _ x.0) low)))))
