-- The theorems about the plain kernel, as statements. Each is proved under its own name in proofs/Theorems.antt.
-- Assumes nothing.
use Rattle.std.specs.Prelude.{ℕ, ◌+◌, ◌*◌, ◌≤◌, ◌≡◌, true, false, List, [], ◌∷◌, length}
use Rattle.plain.specs.State.{Procs, Settings, State, start, usual, fresh}
use Rattle.plain.specs.Calls.{Call, Refusal, done, refusals, refused, step, after}
use Rattle.plain.specs.Start.{Set, slice_of, no_slice, start_refusals, fresh_start}
use Rattle.plain.specs.Sound.{Sound}
use Rattle.plain_laws.specs.History.{First, codes, in_order, order, is_refusal, kind, sent, gone, dropped, settings_by, Ready, is_ahead, count_ahead, Moment, moments, ticks_seen, turns_before, overtaken}

-- 1. A fresh state is sound with any settings that may be set, and every call keeps that. The slice "is fixed at the fresh start"; of the other settings `mailbox` alone changes any.
pub record Soundness : Type 0 where
  pub usual_set : Set usual
  pub at_first : (x : Settings) → Set x → Sound (start x)
  pub kept : (s : State) (c : Call) → Sound s → Sound (step s c).next
  pub always : (x : Settings) (cs : List Call) → Set x → Sound (after (start x) cs)
  pub slice_stays : (s : State) (c : Call) → (step s c).next.settings.slice ≡ s.settings.slice
  pub settings_after : (s : State) (c : Call) → is_refusal (step s c).answer ≡ false → (step s c).next.settings ≡ settings_by (kind c) s.settings

-- The fresh start is refused exactly where its n ticks may not be set, 16 coming "after 14"; what it leads to is sound in any case.
pub record FreshStarts : Type 0 where
  pub taken : (n : ℕ) → Set (slice_of n) → fresh_start n ≡ done 0 (start (slice_of n))
  pub given : (n : ℕ) → (Set (slice_of n) → ⊥) → fresh_start n ≡ refused (no_slice n) fresh
  pub sound : (n : ℕ) → Sound (fresh_start n).next
  pub ordered : (n : ℕ) → in_order (14 ∷ codes (start_refusals n)) order ≡ true

-- 2. Demand 1 (docs/KERNEL.md) of the plain kernel: a refusal is given where its condition holds and none before it in the order does, and at no other time; it changes nothing.
pub record Refusals : Type 0 where
  pub given : (s : State) (c : Call) (r : Refusal) → First (refusals s c) r → step s c ≡ refused r s
  pub only : (s : State) (c : Call) → is_refusal (step s c).answer ≡ true → (r : Refusal) × First (refusals s c) r
  pub unchanged : (s : State) (c : Call) → is_refusal (step s c).answer ≡ true → (step s c).next ≡ s
  pub ordered : (s : State) (c : Call) → in_order (codes (refusals s c)) order ≡ true

-- 3. "Over any calls from fresh, for each mailbox: accepted sends equal messages queued now plus messages that went from it into a hand", and by request 5 "plus messages dropped"
abbrev pub Messages : Type 0
Messages = (x : Settings) (m : ℕ) (cs : List Call) → sent m (start x) cs ≡ length ((after (start x) cs).box m) + gone m (start x) cs + dropped m (start x) cs

-- 4. Demand 3 (docs/KERNEL.md), for every p that is ready in a state that calls lead to from fresh, whatever is called then.
-- p is ready where the processes stand as in r, and `ms` is what follows.
pub record Fair (slice : ℕ) (r : Procs) (p : ℕ) (ms : List Moment) : Type 0 where
  -- "sees at most 3 k ticks fall while its class runs before it runs or is stopped", k of its class being ahead of it: by request 3 "slice times k"
  pub few_ticks : ticks_seen p ms ≤ slice * count_ahead r p
  -- nobody who is not ahead of it runs as one of its class before it
  pub nobody_passes : (x : ℕ) → is_ahead r p x ≡ false → turns_before x p ms ≡ 0
  -- "and nobody who joins the rear after it runs from there before it", by whichever of these calls
  pub rear_waits : overtaken [] p ms ≡ 0

abbrev pub Fairness : Type 0
Fairness = (x : Settings) (cs later : List Call) (p : ℕ) → Set x → Ready (after (start x) cs).procs p → Fair x.slice (after (start x) cs).procs p (moments (after (start x) cs) later)
