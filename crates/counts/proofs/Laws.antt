-- The counts that an array holds after each change, where it held some before.
-- Assumes nothing.
use Prim.Native.Nat.{ℕ, zero, suc, ◌<◌, ◌-◌}
use mathlib.Core.Path.{◌≡◌, refl, ◌∙◌}
use mathlib.Core.List.{List, [], ◌∷◌}
use native.Mathlib.Omega.{arith}
use lib.ListN.{set}
use lib.Seq.{set-get_or}
use borrow.Author.Tests.{lt-leb}
use Rattle.lists.specs.Lists.{someone}
use Rattle.lists.proofs.Laws.{set_entries}
use Rattle.plain.specs.Sizes.{semaphores, highest_count}
use Rattle.plain.specs.State.{State}
use Rattle.plain.specs.Calls.{wake, claim}
use Rattle.counts.specs.Counts.{Counted, signalled, claimed}

module _ {t : List ℕ} (s : State) (C : Counted t s.count) (i : ℕ) (h : i < semaphores) where
  pub signalled-counted : (waiters : List ℕ) → s.count i < highest_count → Counted (signalled t i (someone waiters)) (wake i waiters s).count
  unfolding signalled
  signalled-counted [] low = rw (C.each i, lt-leb highest_count (s.count i) low) (set_entries C i _ h)
  signalled-counted (w ∷ l) low = C

  pub claimed-counted : Counted (claimed t i) (claim i (s.count i) s).next.count
  unfolding claimed
  claimed-counted = rw (C.each i) (go (s.count i) refl)
    where
      go : (n : ℕ) → s.count i ≡ n → Counted (set t i (n - 1)) (claim i n s).next.count
      go zero e = rw (← C.each i ∙ e, set-get_or) C
      go (suc n) e = let less : suc n - 1 ≡ n = omega arith in rw less (set_entries C i n h)
