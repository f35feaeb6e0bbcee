-- Who joins the rear by a call: it goes to the rear of a class, and then settling says who runs.
-- Assumes nothing.
use Prim.Native.Nat.{ℕ, ◌-◌, ◌≤◌, ◌<◌}
use mathlib.Core.Path.{◌≡◌, refl, ◌∙◌, subst}
use mathlib.Core.Bool.{Bool, true, false, not, ◌||◌}
use mathlib.Core.Logic.{◌≢◌, ⊎_elim}
use mathlib.Core.List.{List, [], ◌∷◌}
use native.Mathlib.Omega.{arith}
use lib.Dec.{eqb}
use lib.ListN.{take, drop}
use borrow.Author.Tests.{eqb-true, eqb-false, leb-false, not-false}
use Rattle.std.specs.Prelude.{if◌then◌else◌}
use Rattle.lists.specs.Lists.{occurs}
use Rattle.std.proofs.lemmas.Bool.{cases_eq, or_parts}
use Rattle.lists.proofs.Laws.{one_other}
use Rattle.plain.specs.Sizes.{processes, classes, at_mailbox, at_semaphore}
use Rattle.plain.specs.State.{Message, Procs, State, line, rank, fill, free_process}
use Rattle.plain.specs.Mailboxes.{buffers_for}
use Rattle.plain.specs.Runs.{make_ready, go_to}
use Rattle.plain.specs.Calls.{Call, create, stop, end, yield, class, tick, mailbox, send, receive, read, release, signal, wait, perform, refusals, step, yielded, ticked, regraded, deliver, wake}
use Rattle.plain.specs.Sound.{Sound}
use Rattle.plain_laws.specs.Moves.{to_rear, settle, Away}
use Rattle.plain_laws.specs.History.{Passed, is_refusal, joiners}
use Rattle.plain_laws.proofs.Calls.{accepted, next_process, create_settles, wake_settles, go_to_settles, wait_settles}
use Rattle.plain_laws.proofs.Refusals.{accepted_passed}
use Rattle.plain_laws.proofs.Relief.{relieved_cases}
use Rattle.plain_laws.proofs.Seats.{member, head_in, runner_away, runner_range, one_queue, nowhere}

-- x, who is not ready, goes to the rear of a class with a full slice of n ticks; then settling says who runs
pub record Rejoins (n : ℕ) (s : Procs) (x : ℕ) (s' : Procs) : Type 0 where
  pub class : ℕ
  pub used : 1 ≤ x
  pub inside : x < processes
  pub away : Away s x
  pub below : class < classes
  pub settled : s' ≡ settle (to_rear class x class n s)

-- ---- each call

alone : (x y : ℕ) → 1 ≤ occurs x (y ∷ []) → y ≡ x
alone x y h = ⊎_elim (λ e. e) (λ (d : y ≢ x). absurd (omega (arith, one_other y x d))) (cases_eq y x)

module _ (s : State) (k : Sound s) where
  abbrev n : ℕ
  n = s.settings.slice

  abbrev r : Procs
  r = s.procs

  abbrev Joins : ℕ → Procs → Type 0
  Joins x r' = Rejoins n r x r'

  runner_joins : (c x : ℕ) (r' : Procs) → r.running ≢ 0 → c < classes → r' ≡ settle (to_rear c r.running c n r) → 1 ≤ occurs x (r.running ∷ []) → Joins x r'
  runner_joins c x r' z hc e h = subst (λ (y : ℕ). Joins y r') (alone x r.running h) (record {
    class = c;
    used = omega arith;
    inside = runner_range n r k.seated;
    away = λ d b. runner_away n r k.seated d;
    below = hc;
    settled = e;
  })

  yield_joins : (x : ℕ) → r.running ≢ 0 → 1 ≤ occurs x (r.running ∷ []) → Joins x (yielded n r)
  yield_joins x z h =
      let c : ℕ = r.class r.running in
      runner_joins c x (yielded n r) z (k.seated.in_class r.running) (wait_settles n r k.seated k.highest c) h

  class_joins : (c x : ℕ) (t : Bool) → r.running ≢ 0 → c < classes → eqb c (r.class r.running) ≡ t → 1 ≤ occurs x (if t then [] else r.running ∷ []) → Joins x (regraded n c r)
  class_joins c x true z hc e h = absurd (omega arith)
  class_joins c x false z hc e h = rw e (runner_joins c x (go_to n c (rank r.running c r)) z hc (go_to_settles n c c r (runner_away n r k.seated)) h)

  tick_joins : (x : ℕ) (t : Bool) → (eqb r.running 0 || not (eqb (r.ticks r.running - 1) 0)) ≡ t → 1 ≤ occurs x (if t then [] else r.running ∷ []) → Joins x (ticked n r)
  tick_joins x true e h = absurd (omega arith)
  tick_joins x false e h =
      let t : ℕ = r.ticks r.running - 1 in
      let z = or_parts (eqb r.running 0) (not (eqb t 0)) e in
      let none : t ≡ 0 = eqb-true t 0 (not-false (eqb t 0) z.1) in
      rw (z.0, none) (yield_joins x (eqb-false r.running 0 z.0) h)

  -- the first who waits in queue q is made ready
  wakes : (q x : ℕ) (l : List ℕ) (next : List ℕ → State) → classes ≤ q → r.queue q ≡ l
      → ((w : ℕ) (m : List ℕ) → (next (w ∷ m)).procs ≡ make_ready n w (line q m r)) → 1 ≤ occurs x (take 1 l) → Joins x (next l).procs
  wakes q x [] next hq e f h = absurd (omega arith)
  wakes q x (w ∷ l) next hq e f h =
      let here = head_in n r k.seated q w l e in
      let who = member n r k.seated q w here in
      subst (λ (y : ℕ). Joins y (next (w ∷ l)).procs) (alone x w h) (record {
        class = r.class w;
        used = who.0;
        inside = who.1;
        away = λ d b. one_queue n r k.seated q d w here (omega arith);
        below = k.seated.in_class w;
        settled = f w l ∙ wake_settles n r k.seated k.highest q w l hq e;
      })

  performs : (c : Call) (x : ℕ) → Passed (refusals s c) → 1 ≤ occurs x (joiners r c) → Joins x (perform s c).next.procs
  unfolding perform refusals
  performs (create c) x p h =
      let y = next_process r p.1.0 in
      let w : ℕ = free_process r in
      let hc = leb-false classes c p.0 in
      subst (λ (z : ℕ). Joins z (make_ready n w (rank w c r))) (alone x w h) (record {
        class = c;
        used = y.0;
        inside = y.1;
        away = λ d b. nowhere n r k.seated w d y.2;
        below = hc;
        settled = create_settles n r k.seated k.highest w c y.2 hc;
      })
  performs (stop q) x p h = absurd (omega arith)
  performs end x p h = absurd (omega arith)
  performs yield x p h = yield_joins x (eqb-false r.running 0 p.0) h
  performs (class c) x p h = class_joins c x (eqb c (r.class r.running)) (eqb-false r.running 0 p.0) (leb-false classes c p.1.0) refl h
  performs tick x p h = tick_joins x (eqb r.running 0 || not (eqb (r.ticks r.running - 1) 0)) refl h
  performs (mailbox m c d) x p h = absurd (omega arith)
  performs (send m b) x p h =
      let y : Message = record { lies = buffers_for m b s; bytes = b } in
      let next : State → List ℕ → State = λ t l. deliver m y l t in
      relieved_cases m s (λ t. Joins x (next t (r.queue (at_mailbox m))).procs)
      (λ e. wakes (at_mailbox m) x (r.queue (at_mailbox m)) (next s) (omega arith) refl (λ w l. refl) h)
      (λ e. wakes (at_mailbox m) x (r.queue (at_mailbox m)) (next (fill m (drop 1 (s.box m)) s)) (omega arith) refl (λ w l. refl) h)
  performs (receive m) x p h = absurd (omega arith)
  performs (read room) x p h = absurd (omega arith)
  performs release x p h = absurd (omega arith)
  performs (signal i) x p h = wakes (at_semaphore i) x (r.queue (at_semaphore i)) (λ l. wake i l s) (omega arith) refl (λ w l. refl) h
  performs (wait i) x p h = absurd (omega arith)

  pub rejoins : (c : Call) (x : ℕ) → is_refusal (step s c).answer ≡ false → 1 ≤ occurs x (joiners r c) → Joins x (step s c).next.procs
  unfolding step
  rejoins c x e h =
      let p = accepted_passed s c e in
      rw (accepted (refusals s c) s (perform s c) p) (performs c x p h)
