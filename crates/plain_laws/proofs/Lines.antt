-- What a call does to a queue of waiters, any of them: it loses its first, whom the call serves, or one who is stopped, or grows at the rear.
-- Assumes nothing.
use Prim.Native.Nat.{ℕ, zero, suc, ◌-◌, ◌≤◌, ◌<◌}
use mathlib.Core.Path.{◌≡◌, refl, sym, ap, ◌∙◌, subst}
use mathlib.Core.Bool.{true, false, and-false, true≢false}
use mathlib.Core.Logic.{◌≢◌, ◌⊎◌, inl, inr, ⊎_elim}
use mathlib.Core.List.{List, [], ◌∷◌, ◌++◌}
use native.Mathlib.Omega.{arith}
use lib.Dec.{eqb}
use lib.ListN.{drop}
use borrow.Author.Tests.{eq-eqb, ne_eqb, eqb-false, leb-false, lt-ltb}
use Rattle.lists.specs.Lists.{occurs, without}
use Rattle.std.proofs.lemmas.Bool.{cases_Bool, cases_eq}
use Rattle.lists.proofs.Laws.{put_same, one_same, occurs_rear, without_absent, without_split}
use Rattle.plain.specs.Sizes.{processes, classes, mailboxes, semaphores, queues, at_mailbox, at_semaphore}
use Rattle.plain.specs.State.{Message, Procs, State, line, rank, fill, places, free_process}
use Rattle.plain.specs.Mailboxes.{buffers_for}
use Rattle.plain.specs.Names.{bare}
use Rattle.plain.specs.Runs.{make_ready, go_to, halt}
use Rattle.plain.specs.Calls.{Call, create, stop, end, yield, class, tick, mailbox, send, receive, read, release, signal, wait, Outcome, done, wait_at, stopped, yielded, regraded, spent, ticked, deliver, fetch, wake, claim, perform, refusals, step}
use Rattle.plain.specs.Sound.{Seated, Sound, In}
use Rattle.plain_laws.specs.History.{Passed, is_refusal, Ready, Moment, moment}
use Rattle.plain_laws.specs.Moves.{leave, to_rear, settle}
use Rattle.plain_laws.specs.Waiters.{is_for, serves}
use Rattle.plain_laws.proofs.Ahead.{Alike, settle_alike}
use Rattle.plain_laws.proofs.Calls.{accepted, somebody, next_process, create_settles, wake_settles, halt_settles, go_to_settles, wait_settles}
use Rattle.plain_laws.proofs.Frames.{slice_some}
use Rattle.plain_laws.proofs.Places.{leave-gone, rear_elsewhere, rear_there}
use Rattle.plain_laws.proofs.Refusals.{unchanged, accepted_passed}
use Rattle.plain_laws.proofs.Relief.{relieved_cases}
use Rattle.plain_laws.proofs.Seats.{member, head_in, runner_away, runner_range, one_queue, queue_once, queued_rests, nowhere, rear_seated, gone-seated}
use Rattle.plain_laws.proofs.Settle.{settle_kept}

-- what becomes of queue q by the call of moment t: nothing, and then nobody was to be served; its first is served; w is stopped; w comes
pub data Line (q : ℕ) (t : Moment) : Type 0 where
  stays : (serves q t ≡ true → t.from.queue q ≡ []) → t.to.queue q ≡ t.from.queue q → Line q t
  goes : (w : ℕ) (l : List ℕ) → serves q t ≡ true → t.from.queue q ≡ w ∷ l → t.to.queue q ≡ l → (t.to.running ≡ w) ⊎ Ready t.to w → Line q t
  loses : (w : ℕ) → serves q t ≡ false → places t.to w ≡ 0 → t.to.queue q ≡ without w (t.from.queue q) → Line q t
  grows : (w : ℕ) → serves q t ≡ false → t.to.queue q ≡ t.from.queue q ++ (w ∷ []) → Line q t

module _ (s : State) (k : Sound s) (q : ℕ) (h : classes ≤ q) where
  abbrev n : ℕ
  n = s.settings.slice

  abbrev r : Procs
  r = s.procs

  -- a call that is not for the queue serves nobody there
  unserved : (c : Call) (o : Outcome) → is_for q c ≡ false → serves q (moment s c o) ≡ false
  unserved c o e = rw e refl

  -- and may leave it as it was
  same : (c : Call) (o : Outcome) → is_for q c ≡ false → o.next.procs.queue q ≡ r.queue q → Line q (moment s c o)
  same c o e i = stays (λ z. absurd (true≢false (sym z ∙ unserved c o e))) i

  -- x goes to the rear of class c
  module _ (x c : ℕ) (x₁ : 1 ≤ x) (x₂ : x < processes) (hc : c < classes) where
    abbrev m : Procs
    m = to_rear c x c n r

    m-seated : Seated n m
    m-seated = rear_seated n r k.seated c x c n (omega arith) x₁ x₂ hc (λ z. refl) (slice_some s k) (omega arith) (λ z. refl)

    off : (settle m).queue q ≡ without x (r.queue q)
    off = (settle_kept n m m-seated).waiting q h ∙ rear_elsewhere x c n r c q (omega arith)

    off_absent : (r' : Procs) → occurs x (r.queue q) ≡ 0 → r' ≡ settle m → r'.queue q ≡ r.queue q
    off_absent r' z e = ap (λ (a : Procs). a.queue q) e ∙ (off ∙ without_absent x (r.queue q) z)

    -- and runs then, or stands there
    readied : r.running ≢ x → ((settle m).running ≡ x) ⊎ Ready (settle m) x
    unfolding to_rear leave
    readied d =
        let own : m.class x ≡ c = put_same r.class x c in
        let there : 1 ≤ occurs x (m.queue c) = omega (arith, ap (occurs x) (rear_there x c n r c), occurs_rear x x (without x (r.queue c)), one_same x) in
        ⊎_elim (λ e. inl e) (λ (a : Alike x m (settle m)). inr a.ready)
        (settle_alike n x m m-seated (subst (λ (i : ℕ). 1 ≤ occurs x (m.queue i)) (sym own) there) (rw (ne_eqb r.running x d) d))

  runner_off : (c : ℕ) (r' : Procs) → r.running ≢ 0 → c < classes → r' ≡ settle (to_rear c r.running c n r) → r'.queue q ≡ r.queue q
  runner_off c r' z hc e = off_absent r.running c (omega arith) (runner_range n r k.seated) hc r' (runner_away n r k.seated q) e

  yield_off : r.running ≢ 0 → (yielded n r).queue q ≡ r.queue q
  yield_off z = runner_off (r.class r.running) (yielded n r) z (k.seated.in_class r.running) (wait_settles n r k.seated k.highest (r.class r.running))

  class_off : (c : ℕ) → r.running ≢ 0 → c < classes → (regraded n c r).queue q ≡ r.queue q
  class_off c z hc = ⊎_elim
      (λ e. rw e refl)
      (λ e. rw e (runner_off c (go_to n c (rank r.running c r)) z hc (go_to_settles n c c r (runner_away n r k.seated))))
      (cases_Bool (eqb c (r.class r.running)))

  tick_off : (ticked n r).queue q ≡ r.queue q
  tick_off = ⊎_elim
      (λ (z : r.running ≡ 0). rw (eq-eqb r.running 0 z) refl)
      (λ (z : r.running ≢ 0). rw (ne_eqb r.running 0 z) (go z (r.ticks r.running - 1)))
      (cases_eq r.running 0)
    where
      go : r.running ≢ 0 → (t : ℕ) → (spent n t r).queue q ≡ r.queue q
      go z zero = yield_off z
      go z (suc t) = refl

  -- p is stopped
  stops : (c : Call) (p : ℕ) → is_for q c ≡ false → 1 ≤ p → Line q (moment s c (done 0 (stopped p s)))
  stops c p e h₁ =
      let m : Procs = leave p 0 0 r in
      let after = settle_kept n m (gone-seated n r k.seated p h₁) in
      let is : halt p r ≡ settle m = halt_settles n r k.seated k.highest p in
      loses p (unserved c (done 0 (stopped p s)) e)
      (ap (λ (a : Procs). places a p) is ∙ (after.placed p h₁ ∙ leave-gone p 0 0 r h₁))
      (ap (λ (a : Procs). a.queue q) is ∙ (after.waiting q h ∙ (unfold leave in refl)))

  -- the caller joins those who wait in queue i
  pauses : (c : Call) (i : ℕ) → is_for q c ≡ false → r.running ≢ 0 → classes ≤ i → i < queues → Line q (moment s c (wait_at i s))
  pauses c i e z h₅ hi =
      let x : ℕ = r.running in
      let m : Procs = to_rear i x (r.class x) n r in
      let seated : Seated n m = rear_seated n r k.seated i x (r.class x) n hi (omega arith) (runner_range n r k.seated) (k.seated.in_class x) (λ y. absurd (omega arith)) (slice_some s k) (omega arith) (λ y. refl) in
      let out : without x (r.queue q) ≡ r.queue q = without_absent x (r.queue q) (runner_away n r k.seated q) in
      let to : (go_to n i r).queue q ≡ m.queue q = ap (λ (a : Procs). a.queue q) (wait_settles n r k.seated k.highest i) ∙ (settle_kept n m seated).waiting q h in
      ⊎_elim
      (λ (d : q ≡ i). grows x (unserved c (wait_at i s) e)
      (to ∙ (subst (λ (j : ℕ). m.queue j ≡ without x (r.queue j) ++ (x ∷ [])) (sym d) (rear_there x (r.class x) n r i) ∙ ap (λ (l : List ℕ). l ++ (x ∷ [])) out)))
      (λ (d : q ≢ i). same c (wait_at i s) e (to ∙ (rear_elsewhere x (r.class x) n r i q d ∙ out)))
      (cases_eq q i)

  -- the first who waits in queue i is made ready, if there is one
  wakes : (c : Call) (i : ℕ) (l : List ℕ) (next : List ℕ → State) → is_for q c ≡ eqb i q → classes ≤ i → r.queue i ≡ l → (next []).procs ≡ r
      → ((w : ℕ) (m : List ℕ) → (next (w ∷ m)).procs ≡ make_ready n w (line i m r)) → Line q (moment s c (done 0 (next l)))
  wakes c i [] next e hi is none some = stays
      (λ z. ⊎_elim
      (λ (j : i ≡ q). ap r.queue (sym j) ∙ is)
      (λ (j : i ≢ q). absurd (true≢false (sym z ∙ unserved c (done 0 (next [])) (e ∙ ne_eqb i q j))))
      (cases_eq i q))
      (ap (λ (a : Procs). a.queue q) none)
  wakes c i (w ∷ l) next e hi is none some =
      let here : In r i w = head_in n r k.seated i w l is in
      let who = member n r k.seated i w here in
      let d : ℕ = r.class w in
      let to : (next (w ∷ l)).procs ≡ settle (to_rear d w d n r) = some w l ∙ wake_settles n r k.seated k.highest i w l hi is in
      let once : occurs w l ≡ 0 = omega (arith, ap (occurs w) is, one_same w, queue_once n r k.seated i w here) in
      ⊎_elim
      (λ (j : q ≡ i).
      let there : r.queue q ≡ w ∷ l = ap r.queue j ∙ is in
      goes w l (rw (e, eq-eqb i q (sym j)) refl) there
      (ap (λ (a : Procs). a.queue q) to ∙ (off w d who.0 who.1 (k.seated.in_class w) ∙ (ap (without w) there ∙ without_split w [] l refl once)))
      (rw to (readied w d who.0 who.1 (k.seated.in_class w) (queued_rests n r k.seated i w here))))
      (λ (j : q ≢ i). same c (done 0 (next (w ∷ l))) (e ∙ ne_eqb i q (λ z. j (sym z)))
      (off_absent w d who.0 who.1 (k.seated.in_class w) (next (w ∷ l)).procs (one_queue n r k.seated i q w here j) to))
      (cases_eq q i)

  fetches : (m : ℕ) (l : List Message) → r.running ≢ 0 → m < mailboxes → Line q (moment s (receive m) (fetch m l s))
  fetches m [] z hm = pauses (receive m) (at_mailbox m) refl z (omega arith) (omega arith)
  fetches m (x ∷ l) z hm = same (receive m) (fetch m (x ∷ l) s) refl refl

  claims : (i c : ℕ) → r.running ≢ 0 → i < semaphores → Line q (moment s (wait i) (claim i c s))
  claims i zero z hi = pauses (wait i) (at_semaphore i) refl z (omega arith) (omega arith)
  claims i (suc c) z hi = same (wait i) (claim i (suc c) s) refl refl

  performs : (c : Call) → Passed (refusals s c) → Line q (moment s c (perform s c))
  unfolding perform refusals
  performs (create c) p =
      let y = next_process r p.1.0 in
      let x : ℕ = free_process r in
      let hc = leb-false classes c p.0 in
      same (create c) (perform s (create c)) refl (off_absent x c y.0 y.1 hc (make_ready n x (rank x c r)) (nowhere n r k.seated x q y.2) (create_settles n r k.seated k.highest x c y.2 hc))
  performs (stop i) p = stops (stop i) (bare i) refl (somebody i s p.0).0
  performs end p = let z = eqb-false r.running 0 p.0 in stops end r.running refl (omega arith)
  performs yield p = same yield (perform s yield) refl (yield_off (eqb-false r.running 0 p.0))
  performs (class c) p = same (class c) (perform s (class c)) refl (class_off c (eqb-false r.running 0 p.0) (leb-false classes c p.1.0))
  performs tick p = same tick (perform s tick) refl tick_off
  performs (mailbox m c d) p = same (mailbox m c d) (perform s (mailbox m c d)) refl refl
  performs (send m b) p =
      let y : Message = record { lies = buffers_for m b s; bytes = b } in
      let hm : m < mailboxes = leb-false mailboxes m p.0 in
      let is : is_for q (send m b) ≡ eqb (at_mailbox m) q = rw (lt-ltb m mailboxes hm) refl in
      let next : State → List ℕ → State = λ t l. deliver m y l t in
      relieved_cases m s (λ t. Line q (moment s (send m b) (done 0 (next t (r.queue (at_mailbox m))))))
      (λ e. wakes (send m b) (at_mailbox m) (r.queue (at_mailbox m)) (next s) is (omega arith) refl refl (λ w l. refl))
      (λ e. wakes (send m b) (at_mailbox m) (r.queue (at_mailbox m)) (next (fill m (drop 1 (s.box m)) s)) is (omega arith) refl refl (λ w l. refl))
  performs (receive m) p = fetches m (s.box m) (eqb-false r.running 0 p.0) (leb-false mailboxes m p.1.0)
  performs (read room) p = same (read room) (perform s (read room)) refl refl
  performs release p = same release (perform s release) refl refl
  performs (signal i) p = wakes (signal i) (at_semaphore i) (r.queue (at_semaphore i)) (λ l. wake i l s) refl (omega arith) refl refl (λ w l. refl)
  performs (wait i) p = claims i (s.count i) (eqb-false r.running 0 p.0) (leb-false semaphores i p.1.0)

  pub lined : (c : Call) → Line q (moment s c (step s c))
  unfolding step
  lined c = ⊎_elim
      (λ (e : is_refusal (step s c).answer ≡ true). stays (λ z. absurd (true≢false (sym z ∙ (rw e (and-false (is_for q c)))))) (ap (λ (t : State). t.procs.queue q) (unchanged s c e)))
      (λ (e : is_refusal (step s c).answer ≡ false). let p = accepted_passed s c e in subst (λ (o : Outcome). Line q (moment s c o)) (sym (accepted (refusals s c) s (perform s c) p)) (performs c p))
      (cases_Bool (is_refusal (step s c).answer))
