-- `kernel::Kernel::fresh_start` meets its contract. Assumes nothing.
use Prim.Native.Nat.{ℕ, ◌%◌}
use Rattle.kernel.proofs.Fresh.{refused-start, accepted_start}
use Rattle.kernel.proofs.Kernel.fresh_start.Goals as goal
use Rattle.kernel.specs.Holds.{Holds}
use Rattle.plain.specs.Start.{longest_slice, slice_of}
use Rattle.plain.specs.State.{Settings, start}
use mathlib.Core.Path.{◌≡◌, subst}
use native.Mathlib.Omega.{arith}

pub returns-in-Err : goal.returns-in-Err
returns-in-Err c = refused-start c.args.slice c.in-Err.r c.in-Err.ensures (rw (← c.usual.ensures) c.fresh.ensures) c.refuse.ensures

pub returns : goal.returns
unfolding longest_slice
returns c = accepted_start c.args.slice c.in_default.field-0 c.in_default.ensures
    (λ z. subst (λ (n : ℕ). Holds c.fresh-2.result (start (slice_of n))) (let e : c.args.slice % 256 ≡ c.args.slice = omega (arith, z.not_over) in e) (subst (λ (x : Settings). Holds c.fresh-2.result (start x)) c.of_slice.ensures c.fresh-2.ensures)) c.answer.ensures
