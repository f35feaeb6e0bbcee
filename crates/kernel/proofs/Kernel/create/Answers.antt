-- `kernel::Kernel::create` meets its contract. Assumes nothing.
use Prim.Native.Nat.{ℕ, ◌%◌}
use Rattle.kernel.proofs.Changes.{created_holds}
use Rattle.kernel.proofs.Judging.{refused_plainly, accepted_plainly, gives}
use Rattle.kernel.proofs.Kernel.create.Goals as goal
use Rattle.kernel.proofs.Verdicts.{judged_create}
use Rattle.kernel.specs.Judged.{answered}
use Rattle.names.proofs.Laws.{counts_are}
use Rattle.plain.specs.Calls as Plain
use Rattle.plain.specs.Names.{name}
use Rattle.plain.specs.State.{free_process}
use Rattle.plain_laws.proofs.Calls.{next_process}
use Rattle.procs.proofs.Looks.{lowest-unused}
use borrow.Author.Tests.{leb-false}
use mathlib.Core.List.{[]}
use mathlib.Core.Path.{◌≡◌, ap, ◌∙◌}
use native.Mathlib.Omega.{arith}

pub returns-in-Err : goal.returns-in-Err
returns-in-Err c = refused_plainly (Plain.create _) c.in-Err.r (judged_create c.facts-f.ensures c.args.class c.lowest_unused-p.ensures c.in-Err.ensures) c.refuse.ensures

pub returns : goal.returns
unfolding Plain.perform Plain.refusals
returns c = accepted_plainly (Plain.create _) c.in_default.field-0 (judged_create c.facts-f.ensures c.args.class c.lowest_unused-p.ensures c.in_default.ensures) (λ s H S x.
    let p : ℕ = free_process s.procs in
    let fr = next_process s.procs x.1.0 in
    let e : c.lowest_unused-p.result % 32 ≡ p = omega (arith, fr.1, c.lowest_unused-p.ensures ∙ lowest-unused H.procs) in
    let low = leb-false _ _ x.0 in
    let N = created_holds H S p c.args.class c.facts-f.ensures.slice e (omega (arith, low)) fr.2 fr.0 fr.1 low c.created-next.ensures in
    gives 0 _ [] _ (c.answer.ensures ∙ ap (answered _ 0) (c.name_of.ensures ∙ (λ i. name (counts_are N.births i) (e i)))) N)
