-- What every call and question is judged by, read off a state: the promise of `facts`.
-- Assumes nothing.
use Rattle.std.specs.Prelude.{◌≡◌}
use Rattle.rings.specs.Decides.{Decides}
use Rattle.verdicts.specs.declared.Facts.{Facts}
use Rattle.kernel.specs.Holds.{settings_of, IsSound}
use Rattle.kernel.specs.declared.Kernel.{Kernel}

-- the facts f are those of k
pub record Gathered (k : Kernel) (f : Facts) : Type 0 where
  pub sound : Decides f.sound (IsSound k)
  pub runner : f.runner.0 ≡ k.procs.running.0
  pub slice : f.slice ≡ (settings_of k).slice
