-- Which settings may be set.
-- Assumes nothing.
use Prim.Native.Nat.{◌≤◌}
use mathlib.Core.Bool.{Bool, true, false}
use mathlib.Core.Logic.{◌≢◌}
use mathlib.Core.Path.{◌≡◌}
use native.Mathlib.Omega.{arith}
use Rattle.plain.specs.Mailboxes.{Habits}
use Rattle.plain.specs.Start.{Set, longest_slice}
use Rattle.rings.specs.Decides.{Decides}
use Rattle.habits.specs.Tables.{capacity_in, mode_in}
use Rattle.kernel.specs.Holds.{named}
use Rattle.kernel.specs.declared.Settings.{Settings}

pub no_slice_lem : (x : Settings) → x.slice ≡ 0 → Decides false (Set (named x))
no_slice_lem x e z = omega (arith, z.some_ticks)

-- a slice that is a byte may be set if it is not 0: then it is for the capacities and modes to say
pub some_slice : (x : Settings) → x.slice ≢ 0 → x.slice ≤ 255 → (b : Bool) → Decides b (Habits (capacity_in x.capacity) (mode_in x.mode)) → Decides b (Set (named x))
unfolding longest_slice
some_slice x e low true z = record { some_ticks = omega arith; not_over = low; habits = z }
some_slice x e low false z = λ (s : Set (named x)). z s.habits
