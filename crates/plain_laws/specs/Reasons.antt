-- The theorem of request 1, as a statement. It is proved under its own name in proofs/Theorems.antt.
-- Assumes nothing.
use Rattle.std.specs.Prelude.{ℕ, ◌<◌, ◌≡◌}
use Rattle.plain.specs.Sizes.{processes}
use Rattle.plain.specs.Sound.{Sound}
use Rattle.plain.specs.State.{State}
use Rattle.plain.specs.Why.{Reason, Says, reason, numbers}

-- "each process of each sound state has exactly one true reason, its numbers right": the one that is given. In numbers no two are the same.
pub record OneReason : Type 0 where
  pub holds : (s : State) (p : ℕ) → Sound s → p < processes → Says s.procs p (reason s p)
  pub only : (s : State) (p : ℕ) (r : Reason) → Sound s → p < processes → Says s.procs p r → r ≡ reason s p
  pub told_apart : (r r' : Reason) → numbers r ≡ numbers r' → r ≡ r'
