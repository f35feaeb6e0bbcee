-- `kernel::Kernel::wait` meets its contract. Assumes nothing.
use Prim.Native.Nat.{suc, ◌-◌, ◌%◌, ◌<◌}
use Rattle.kernel.proofs.Changes.{moved_holds, gone_kept, claimed_holds}
use Rattle.kernel.proofs.Judging.{refused_plainly, accepted_plainly, gives}
use Rattle.kernel.proofs.Kernel.wait.Goals as goal
use Rattle.kernel.proofs.Verdicts.{judged_wait}
use Rattle.plain.specs.Calls as Plain
use Rattle.plain.specs.Sizes.{semaphores, at_semaphore}
use borrow.Author.Tests.{leb-false, eqb-false}
use mathlib.Core.List.{[]}
use mathlib.Core.Path.{◌≡◌, sym, ◌∙◌}
use native.Mathlib.Omega.{arith}

pub returns-in-Err : goal.returns-in-Err
returns-in-Err c = refused_plainly (Plain.wait _) c.in-Err.r (judged_wait c.facts-f.ensures c.args.i c.in-Err.ensures) c.refuse.ensures

pub returns-then-count_of-eq0 : goal.returns-then-count_of-eq0
unfolding Plain.perform Plain.refusals
returns-then-count_of-eq0 c = accepted_plainly (Plain.wait _) c.in_default.field-0 (judged_wait c.facts-f.ensures c.args.i c.in_default.ensures) (λ s H S x.
    let a = c.args in
    let low : a.i < semaphores = leb-false _ _ x.1.0 in
    let e : a.i % 16 ≡ a.i = omega (arith, low) in
    let none : s.count a.i ≡ 0 = sym (H.counts.each a.i) ∙ (sym c.count_of.ensures ∙ c.if-count_of-eq0.true) in
    rw none (gives 32 0 [] _ c.answer.ensures (rw c.with_procs.ensures
    (moved_holds H (rw (c.go_to.ensures, c.waiters_at_semaphore.ensures, e, c.facts-f.ensures.slice) (gone_kept H S (at_semaphore a.i) (eqb-false _ _ x.0) (omega arith) (omega (arith, low))))))))

pub returns : goal.returns
unfolding Plain.perform Plain.refusals
returns c = accepted_plainly (Plain.wait _) c.in_default.field-0 (judged_wait c.facts-f.ensures c.args.i c.in_default.ensures) (λ s H S x.
    let a = c.args in
    let low : a.i < semaphores = leb-false _ _ x.1.0 in
    let e : a.i % 16 ≡ a.i = omega (arith, low) in
    let some : s.count a.i ≡ suc (s.count a.i - 1) = omega (arith, c.count_of.ensures, H.counts.each a.i, c.if-count_of-eq0.false) in
    rw some (gives 0 0 [] _ c.answer-2.ensures (rw (c.with_count.ensures, c.claimed.ensures, e) (claimed_holds H S a.i low some))))
