-- Tables with an entry for each mailbox: one entry changed, one table for its entries, that of the fresh start, and which may be set.
-- Assumes nothing.
use Prim.Native.Nat.{ℕ, zero, suc, ◌≤◌, ◌<◌}
use mathlib.Core.Logic.{⊎_elim}
use mathlib.Core.Path.{◌≡◌, refl, sym, ap, ◌∙◌, fun_ext}
use mathlib.Core.List.{List, [], ◌∷◌}
use native.Mathlib.Omega.{arith}
use lib.ListN.{length, get_or, set, replicate, get_or-eq_default}
use lib.Seq.{get_or-set_same, get_or-set_other, ext_get_or}
use Rattle.lists.specs.Lists.{put}
use Rattle.lists.proofs.Laws.{le?, put_cases}
use Rattle.plain.specs.Mailboxes.{most_queued, Habits}
use Rattle.plain.specs.Sizes.{mailboxes}
use Rattle.plain.specs.State.{usual}
use Rattle.habits.specs.Tables.{entry_in, capacity_in, mode_in}
use Rattle.habits.specs.Size.{Size}

-- before the end of a table it does not matter what there is behind it
pub inside : (t : List ℕ) (m d e : ℕ) → m < length t → get_or t m d ≡ get_or t m e
inside [] m d e h = absurd (omega arith)
inside (v ∷ t) zero d e h = refl
inside (v ∷ t) (suc m) d e h = inside t m d e (omega arith)

-- whatever the entries are at the fresh start
module _ (start : ℕ → ℕ) where
  pub entry_set : (t : List ℕ) (m v : ℕ) → length t ≡ mailboxes → m < mailboxes → entry_in start (set t m v) ≡ put (entry_in start t) m v
  entry_set t m v n h = fun_ext (λ i. put_cases (λ (a : ℕ). entry_in start (set t m v) i ≡ a) (entry_in start t) m v i
      (λ e. rw e (get_or-set_same t m v (start m) (omega arith)))
      (λ d. get_or-set_other t m i v (start i) d))

  pub one_table : (t u : List ℕ) → length t ≡ mailboxes → length u ≡ mailboxes → entry_in start t ≡ entry_in start u → t ≡ u
  one_table t u n n' e = ext_get_or 0 t u (n ∙ sym n') (λ m h.
      inside t m 0 (start m) h ∙ ap (λ (f : ℕ → ℕ). f m) e ∙ inside u m (start m) 0 (omega arith))

-- a table of equal entries, where they are those of the fresh start
repeated : (n v m : ℕ) → get_or (replicate n v) m v ≡ v
repeated zero v m = refl
repeated (suc n) v zero = refl
repeated (suc n) v (suc m) = repeated n v m

pub usual_capacities : capacity_in (replicate mailboxes 8) ≡ usual.capacity
usual_capacities = fun_ext (repeated mailboxes 8)

pub usual_modes : mode_in (replicate mailboxes 0) ≡ usual.mode
usual_modes = fun_ext (repeated mailboxes 0)

-- two tables may be set if the entries of each mailbox may
module _ (capacity mode : List ℕ) (long : length capacity ≡ mailboxes) (long' : length mode ≡ mailboxes) where
  abbrev Each : Type 0
  Each = (m : ℕ) → m < mailboxes → Size (get_or capacity m 0) (get_or mode m 0)

  at : (m : ℕ) → m < mailboxes → (get_or capacity m 0 ≡ capacity_in capacity m) × (get_or mode m 0 ≡ mode_in mode m)
  at m h = (inside capacity m 0 (usual.capacity m) (omega arith), inside mode m 0 (usual.mode m) (omega arith))

  past : (m : ℕ) → mailboxes ≤ m → (capacity_in capacity m ≡ usual.capacity m) × (mode_in mode m ≡ usual.mode m)
  past m h = (get_or-eq_default capacity (usual.capacity m) (omega arith), get_or-eq_default mode (usual.mode m) (omega arith))

  sizes : Each → (m : ℕ) → Size (capacity_in capacity m) (mode_in mode m)
  unfolding most_queued
  sizes each m = ⊎_elim
      (λ h. record { some = omega (arith, past m h); most = omega (arith, past m h); of_two = omega (arith, past m h) })
      (λ h. rw (← (at m h).0, ← (at m h).1) (each m h))
      (le? mailboxes m)

  pub each-habits : Each → Habits (capacity_in capacity) (mode_in mode)
  each-habits each = record { some = λ m. (sizes each m).some; most = λ m. (sizes each m).most; modes = λ m. (sizes each m).of_two; no_more = past }

  pub habits-each : Habits (capacity_in capacity) (mode_in mode) → Each
  habits-each s m h = rw ((at m h).0, (at m h).1) (record { some = s.some m; most = s.most m; of_two = s.modes m })
