-- `stock::few` meets its contract. The invariant: no mailbox below m holds too many. Assumes nothing.
use Prim.Native.Nat.{ℕ, ◌<◌}
use Rattle.habits.proofs.Laws.{inside}
use Rattle.habits.specs.Tables.{capacity_in}
use Rattle.lists.proofs.Laws.{le?}
use Rattle.plain.specs.State.{usual}
use Rattle.stock.proofs.few.Goals as goal
use borrow.Author.Rules.{rules}
use lib.ListN.{length, get_or, get_or-eq_default}
use mathlib.Core.Logic.{⊎_elim}
use mir.Syntax.{w8}
use mir.Val.{Fits}
use native.Mathlib.Omega.{arith}

pub overflow_add-capacity_of : goal.overflow_add-capacity_of
overflow_add-capacity_of c =
    let small : (m : ℕ) → capacity_in c.args.capacity m < 256 = λ m. let t = c.args.capacity in
    let low : Fits w8 (get_or t m 0) = search rules in
    let d : ℕ = usual.capacity m in
    ⊎_elim (λ h. omega (arith, get_or-eq_default t d h)) (λ h. omega (arith, inside t m 0 d h)) (le? (length t) m) in
    let low : c.capacity_of.result < 256 = rw c.capacity_of.ensures (small _) in
    omega arith
