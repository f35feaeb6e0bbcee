-- Midway in a call: what is known once it has been judged, and what the state is made of once it has been done.
-- Assumes nothing.
use Rattle.std.specs.Prelude.{ℕ, List, ◌≡◌, eqb, if◌then◌else◌}
use Rattle.plain.specs.Calls.{Refusal}
use Rattle.plain.specs.Sound.{Sound}
use Rattle.plain.specs.State.{State}
use Rattle.procs.specs.Stands as Procs
use Rattle.mail.specs.Carries as Mail
use Rattle.verdicts.specs.Chain.{Verdict, verdict, found}
use Rattle.kernel.specs.Holds.{Holds, IsSound}
use Rattle.kernel.specs.declared.Done.{Done}
use Rattle.kernel.specs.declared.Kernel.{Kernel}
use Rattle.kernel.specs.declared.Settings.{Settings}

-- the verdict v on a call with the refusals rs, in state k
pub data Judged (rs : State → List Refusal) (k : Kernel) (v : Verdict) : Type 0 where
  unsound : (IsSound k → ⊥) → v ≡ verdict 14 0 → Judged rs k v
  sound : IsSound k → ((s : State) → Holds k s → Sound s → v ≡ found (rs s)) → Judged rs k v

-- the state as it is, with a code, a number and the process that runs; 0 runs for code 14
abbrev pub answered : Kernel → ℕ → ℕ → Done
answered k code number = record { state = k; answer = record { code = code; number = number; running = k.procs.running.0 } }

abbrev pub refused_with : Kernel → Verdict → Done
refused_with k v = record { state = k; answer = record { code = v.code; number = v.number; running = if eqb v.code 14 then 0 else k.procs.running.0 } }

-- k is made of these processes, this mail, these counts, these birth counts and these settings
pub record Made (k : Kernel) (p : Procs.Numbers) (m : Mail.Numbers) (c b : List ℕ) (x : Settings) : Type 0 where
  pub procs : Procs.numbers k.procs ≡ p
  pub mail : Mail.numbers k.mail ≡ m
  pub count : k.count ≡ c
  pub births : k.births ≡ b
  pub settings : k.settings ≡ x
