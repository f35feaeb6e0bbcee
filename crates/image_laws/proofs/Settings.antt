-- The settings of a sound state as a struct.
-- Assumes nothing.
use Prim.Native.Nat.{ℕ, ◌≤◌}
use mathlib.Core.Path.{◌≡◌, sym, fun_ext}
use Rattle.plain.specs.Sizes.{mailboxes}
use Rattle.plain.specs.Start.{Set}
use Rattle.plain.specs.State as Plain
use Rattle.plain.specs.State.{usual}
use Rattle.habits.specs.Tables.{entry_in}
use Rattle.kernel.specs.Holds.{Named}
use Rattle.kernel.specs.declared.Settings.{Settings}
use Rattle.image_laws.proofs.Arrays.{values, values_long, values_or}

abbrev pub settings_of : Plain.Settings → Settings
settings_of x = record { slice = x.slice; capacity = values mailboxes x.capacity; mode = values mailboxes x.mode }

-- past the last mailbox all is as at the fresh start
entries_are : (start f : ℕ → ℕ) → ((m : ℕ) → mailboxes ≤ m → f m ≡ start m) → f ≡ entry_in start (values mailboxes f)
entries_are start f past = fun_ext (λ m. sym (values_or mailboxes f start past m))

pub settings-named : (x : Plain.Settings) → Set x → Named (settings_of x) x
settings-named x z =
    let capacity = entries_are usual.capacity x.capacity (λ m h. (z.habits.no_more m h).0) in
    let mode = entries_are usual.mode x.mode (λ m h. (z.habits.no_more m h).1) in
    record {
      is = λ i. record { slice = x.slice; capacity = capacity i; mode = mode i };
      capacities = values_long mailboxes x.capacity;
      modes = values_long mailboxes x.mode;
    }
