-- The reason by a struct's numbers is the plain kernel's reason of the state that the struct holds; and from a verdict to the promise.
-- Assumes nothing.
use Prim.Native.Nat.{ℕ, suc, ◌+◌, ◌-◌, ◌<◌}
use mathlib.Core.Bool.{Bool, true, false, not}
use mathlib.Core.List.{[], ◌∷◌}
use mathlib.Core.Logic.{◌≢◌, ⊎_elim}
use mathlib.Core.Path.{◌≡◌, refl, sym, ap, ◌∙◌}
use native.Mathlib.Omega.{arith}
use lib.Dec.{ltb}
use borrow.Author.Tests.{eq-eqb, ne_eqb, not-false, lt-ltb}
use Rattle.std.specs.Prelude.{if◌then◌else◌, Some, None}
use Rattle.lists.specs.Lists.{ahead}
use Rattle.std.proofs.lemmas.Bool.{cases_eq}
use Rattle.rings.proofs.Laws.{placed, elsewhere}
use Rattle.plain.specs.Calls as Calls
use Rattle.plain.specs.Listing.{queue_of}
use Rattle.plain.specs.Names.{bare, names}
use Rattle.plain.specs.Sizes.{processes, classes, mailboxes, queues}
use Rattle.plain.specs.State.{State}
use Rattle.plain.specs.Why as Plain
use Rattle.plain_laws.proofs.Names.{named}
use Rattle.plain_laws.proofs.Refusals.{Proper}
use Rattle.plain_laws.proofs.Why.{queue_is, queue_none}
use Rattle.procs.specs.Moves.{class_at}
use Rattle.procs.specs.Stands as Stands
use Rattle.names.proofs.Laws.{counts_are}
use Rattle.names.specs.Counts.{count_in}
use Rattle.rings.specs.Decides.{Decides}
use Rattle.kernel.proofs.Judging.{runner_is, judged_by, refused_call, accepted_call, judged_passed}
use Rattle.kernel.specs.Holds.{Holds, IsSound}
use Rattle.kernel.specs.Judged.{Judged, refused_with}
use Rattle.verdicts.specs.declared.Answer.{Answer}
use Rattle.kernel.specs.declared.Kernel.{Kernel}
use Rattle.verdicts.specs.Chain.{Verdict, found}
use Rattle.rows.specs.Places.{spot, spot_in}
use Rattle.rows.specs.declared.spots.Spot.{Spot}
use Rattle.rows.proofs.Places.{spot_at, spot_in_lem, spot_none}
use Rattle.reasons.specs.Numbered.{refusals, runner, reason_by, reason_at}
use Rattle.reasons.specs.Reasons.{meant, reason_told, Explains}
use Rattle.reasons.specs.declared.Reason.{Reason}

-- ---- the reason

module _ {k : Kernel} {s : State} (H : Holds k s) (p : ℕ) where
  abbrev n : Stands.Numbers
  n = Stands.numbers k.procs

  -- who runs and of which class is all that the reason asks beside the place
  as_runner : (x : Spot) → reason_by (runner n.running (class_at n n.running)) x ≡ reason_by s.procs x
  unfolding reason_by
  as_runner x = rw (H.procs.stands.running, H.procs.stands.class s.procs.running)

  -- in queue q, with so many ahead
  at_is : (q i : ℕ) → q < queues → reason_by s.procs (spot_at q i) ≡ Plain.reason_in s.procs q i
  unfolding reason_by Plain.reason_in
  at_is q i h = rw (lt-ltb q queues h) (go (ltb q classes) (ltb q (classes + mailboxes)))
    where
      go : (a b : Bool) → reason_by s.procs (if a then spot 2 q i else (if b then spot 3 (q - classes) i else spot 4 (q - (classes + mailboxes)) i))
          ≡ (if a then (if Plain.is_runner_of s.procs q then Plain.ready (suc i) else Plain.behind s.procs.running)
          else (if b then Plain.mailbox (q - classes) i else Plain.semaphore (q - (classes + mailboxes)) i))
      go true b = refl
      go false true = refl
      go false false = refl

  nowhere : (i : ℕ) → reason_by s.procs (spot 0 0 0) ≡ Plain.reason_in s.procs queues i
  unfolding reason_by Plain.reason_in
  nowhere i = refl

  resting : reason_by s.procs (spot_in n.tables.next p) ≡ Plain.reason_in s.procs (queue_of s p) (ahead p (s.procs.queue (queue_of s p)))
  resting =
      let R = H.procs.stands.queues in ⊎_elim
      (λ w. rw (spot_in_lem R p w.0 w.2, queue_is s p w.0 w.1 w.2 (λ j d. elsewhere R j w.0 p w.2 d)) (at_is w.0 _ w.1))
      (λ a. rw (queue_none s p a, spot_none R p a) (nowhere _))
      (placed R p)

  pub reason_is : reason_at n p ≡ Plain.reason s p
  unfolding reason_at Plain.reason
  reason_is = ⊎_elim
      (λ (e : p ≡ s.procs.running). rw (H.procs.stands.running, eq-eqb p s.procs.running e))
      (λ (d : p ≢ s.procs.running). ⊎_elim
      (λ (z : p ≡ 0). rw (H.procs.stands.running, ne_eqb p s.procs.running d, eq-eqb p 0 z))
      (λ (z : p ≢ 0). rw (ne_eqb p n.running (λ e. d (e ∙ H.procs.stands.running)), ne_eqb p s.procs.running d, ne_eqb p 0 z) (as_runner _ ∙ resting))
      (cases_eq p 0))
      (cases_eq p s.procs.running)

-- ---- the promise

proper : (n : ℕ) (s : State) → Proper (refusals n s)
proper n s = (omega arith, tt)

-- what refuses it, by the birth counts of a struct
pub judged-why : (n : ℕ) (sound : Bool) {is_name : Bool} {k : Kernel} {v : Verdict} → Decides sound (IsSound k) → is_name ≡ names (count_in k.births) n → v ≡ found (Calls.on 14 (not sound) ∷ Calls.on 1 (not is_name) ∷ []) → Judged (refusals n) k v
judged-why n sound S is e = judged_by sound S e (λ s H. rw (is, counts_are H.births) refl)

module _ (k : Kernel) (n : ℕ) (v : Verdict) (j : Judged (refusals n) k v) where
  -- what is not refused is about a process
  pub low : v.code ≡ 0 → bare n < processes
  low z =
      let w = judged_passed (proper n) z j in
      let s : State = w.0.0 in
      (named s.births n (not-false (names s.births n) (w.2 s w.0.1 w.0.2).0)).0

  pub refused : (a : Answer) → v.code ≢ 0 → a ≡ (refused_with k v).answer → Explains Holds k n (record { answer = a; reason = None })
  unfolding Plain.why
  refused a d e = rw e (refused_call (refusals n) (Calls.done 0) (λ s. None ≡ reason_told s n) (None ≡ None) k v (proper n) d j (λ s z. sym (rw z)) refl)

  pub accepted : (a : Answer) (r : Reason) → v.code ≡ 0 → a ≡ (refused_with k v).answer → meant r ≡ reason_at (Stands.numbers k.procs) (bare n) → Explains Holds k n (record { answer = a; reason = Some r })
  unfolding Plain.why
  accepted a r z e m = rw e (accepted_call (refusals n) (Calls.done 0) (λ s. Some (meant r) ≡ reason_told s n) (Some r ≡ None) k v (proper n) z j (refused_with k v)
      (λ s H S q is. rw (judged_passed (proper n) z j).1 (record { next = H; answer = rw (runner_is k s H) refl }, ap Some (m ∙ reason_is H (bare n)) ∙ sym (rw is))))
