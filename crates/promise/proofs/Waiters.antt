-- Nobody barges in over a run: its moments are the plain kernel's, and what a waiter has in hand by the plain state it has by the code's state and the store.
-- Assumes nothing.
use Prim.Native.Nat.{ℕ}
use mathlib.Core.Bool.{false}
use mathlib.Core.List.{List, [], ◌∷◌}
use mathlib.Core.Path.{◌≡◌, refl, sym, ap, ◌∙◌, subst}
use Rattle.plain.specs.Calls as Plain
use Rattle.plain.specs.Sizes.{at_mailbox, at_semaphore}
use Rattle.plain.specs.Sound.{Sound}
use Rattle.plain.specs.State.{Procs, State}
use Rattle.plain_laws.proofs.Sound.{step_sound}
use Rattle.plain_laws.proofs.Waiters.{moments_are, nobody_barges}
use Rattle.plain_laws.specs.History.{is_refusal, Moment}
use Rattle.plain_laws.specs.Waiters.{remaining, Orderly, handover, handovers, Gets, InOrder, moments_of, NobodyBarges}
use Rattle.promise.specs.Promise.{Stored}
use Rattle.promise.specs.Theorems.{Heard, Seats, Run, moment_of, seen}
use Rattle.promise.specs.Waiters.{Grasps, handed}
use Rattle.promise.proofs.Runs.{runs}
use Rattle.promise.proofs.Seen.{sees}
use Rattle.promise.proofs.Stored.{in_hand_lem}

module _ {K : Type 0} (Holds : K → State → Type 0) (seating : K → Procs) (seats : Seats Holds seating) where
  -- the moments of its handovers
  handed-moments : {k k' : K} {store store' : List ℕ} {cs : List Plain.Call} {heard : List Heard} (run : Run Holds k store cs heard k' store') → moments_of (handed Holds seating run) ≡ seen Holds seating run
  handed-moments Run.stop = refl
  handed-moments (Run.call {k} {k₁} {c = c} {h} p rest) = ap (λ (ms : List Moment). moment_of Holds seating k c h k₁ ∷ ms) (handed-moments rest)
  handed-moments (Run.ask f Later Same b p rest) = handed-moments rest

  -- what the first of l has by the plain state it has by k and the store
  gets : {k : K} {store : List ℕ} (m : ℕ) (l : List ℕ) (s : State) (c : Plain.Call) (t : Moment) → Holds k (Plain.step s c).next → Stored store (Plain.step s c).next → t ≡ (handover s c).moment
      → Gets m l (handover s c) → Gets m l (record { moment = t; in_hand = Grasps Holds k store })
  gets m [] s c t H T e g = tt
  gets {store = store} m (w ∷ l) s c t H T e g = λ b is taken.
      let s' : State = (Plain.step s c).next in
      let x = g b (ap (λ (t : Moment). t.call) (sym e) ∙ is) (subst (λ (t : Moment). is_refusal t.answer ≡ false) e taken) in
      (s', H, x.0, in_hand_lem store (s'.hand w) (T.all_in_hands w) ∙ x.1)

  handed_in_order : {k k' : K} {store store' : List ℕ} {cs : List Plain.Call} {heard : List Heard} (m : ℕ) (l : List ℕ) (s : State) → Holds k s → Sound s → Stored store s
      → (run : Run Holds k store cs heard k' store') → InOrder m l (handovers s cs) → InOrder m l (handed Holds seating run)
  unfolding handovers Plain.answers Plain.after
  handed_in_order m l s H S T Run.stop g = tt
  handed_in_order m l s H S T (Run.call {k} {k₁} {c = c} {h} p rest) g =
      let o : Plain.Outcome = Plain.step s c in
      let r = runs Holds s H S T (Run.call p Run.stop) in
      let heard : h ≡ (o.answer, o.message) = cc in
      let t : Moment = moment_of Holds seating k c h k₁ in
      let e : t ≡ (handover s c).moment = λ i. record { from = seats k s H i; call = c; answer = (heard i).0; to = seats k₁ o.next r.last i } in (
        gets m l s c t r.last r.messages e g.0,
        subst (λ (t : Moment). InOrder m (remaining (at_mailbox m) l t) (handed Holds seating rest)) (sym e)
            (handed_in_order m (remaining (at_mailbox m) l (handover s c).moment) o.next r.last (step_sound s S c) r.messages rest g.1),
      )
  handed_in_order m l s H S T (Run.ask f Later Same b p rest) g = handed_in_order m l s H S T rest g

  pub turn_sound : (s : State) (k k' : K) (store store' : List ℕ) (later : List Plain.Call) (heard : List Heard) → Holds k s → Sound s → Stored store s
      → (on : Run Holds k store later heard k' store') → NobodyBarges (seating k) (handed Holds seating on)
  turn_sound s k k' store store' later heard H S T on =
      let r = runs Holds s H S T on in
      let b = nobody_barges s later S in
      let same : moments_of (handed Holds seating on) ≡ moments_of (handovers s later) = handed-moments on ∙ (sees Holds seating seats s on r.states r.answers ∙ sym (moments_are s later)) in
      rw (seats k s H) (record {
        at_semaphores = λ i h. subst (λ (ms : List Moment). Orderly (at_semaphore i) 13 s.procs ms) (sym same) (b.at_semaphores i h);
        at_mailboxes = λ m h. subst (λ (ms : List Moment). Orderly (at_mailbox m) 11 s.procs ms) (sym same) (b.at_mailboxes m h);
        messages = λ m h. handed_in_order m (s.procs.queue (at_mailbox m)) s H S T on (b.messages m h);
      })
