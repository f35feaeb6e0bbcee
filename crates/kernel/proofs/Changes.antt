-- A state of the code made of changed parts holds the plain state with those parts changed.
-- Assumes nothing.
use Prim.Native.Nat.{ℕ, suc, ◌-◌, ◌≤◌, ◌<◌}
use mathlib.Core.Bool.{false}
use mathlib.Core.List.{List, [], ◌∷◌}
use mathlib.Core.Logic.{◌≢◌}
use mathlib.Core.Option.{Option, none, some}
use mathlib.Core.Path.{◌≡◌, refl, sym, ap, ◌∙◌, subst}
use native.Mathlib.Omega.{arith}
use lib.Dec.{ltb}
use lib.ListN.{length}
use borrow.Author.Tests.{lt-ltb, le-ltb}
use Rattle.lists.specs.Lists.{someone}
use Rattle.rings.proofs.Looks.{first_some, first_none}
use Rattle.plain.specs.Calls as Plain
use Rattle.plain.specs.Runs.{make_ready, go_to}
use Rattle.plain.specs.Sizes.{processes, classes, mailboxes, longest, semaphores, highest_count, at_mailbox, at_semaphore, queues}
use Rattle.plain.specs.Sound.{Sound}
use Rattle.plain.specs.State as State
use Rattle.plain.specs.State.{Message, Settings, State, places, move, line}
use Rattle.plain.specs.Pages.{needed, lowest_free, too_few}
use Rattle.plain_laws.proofs.Frames.{slice_some}
use Rattle.plain_laws.proofs.Seats.{head_in, runner_range}
use Rattle.procs.proofs.Calls.{woken_nobody}
use Rattle.procs.proofs.Kept.{created_kept, woken_kept, went_kept, halted_kept}
use Rattle.procs.proofs.Looks.{first_there, first_nobody}
use Rattle.procs.specs.Moves as Procs
use Rattle.procs.specs.Stands as Stands
use Rattle.procs.specs.declared.Procs as Procs'
use Rattle.mail.proofs.Moves.{delivered_carries, fetched_carries, let_go_carries}
use Rattle.mail.specs.Carries as Carries
use Rattle.mail.specs.Moves as Mail
use Rattle.mail.specs.declared.Mail as Mail'
use Rattle.counts.proofs.Laws.{signalled-counted, claimed-counted}
use Rattle.counts.specs.Counts as Counts
use Rattle.names.proofs.Laws.{born_kept}
use Rattle.names.specs.Counts as Names
use Rattle.kernel.specs.Holds.{Named, settings_of, Holds}
use Rattle.kernel.specs.Judged.{Made}
use Rattle.kernel.specs.declared.Kernel.{Kernel}
use Rattle.kernel.specs.declared.Settings as Code

pub made_holds : {r : Kernel} {s : State} {p : Stands.Numbers} {m : Carries.Numbers} {c b : List ℕ} {x : Code.Settings} → Made r p m c b x → Stands.Keeps p s.procs → Carries.Carries m s.box s.hand → Counts.Counted c s.count → Names.Kept b s.births → Named x s.settings → Holds r s
made_holds M P C N B e = record { procs = rw M.procs P; mail = rw M.mail C; counts = rw M.count N; births = rw M.births B; settings = rw M.settings e }

module _ {k : Kernel} {s : State} (H : Holds k s) where
  -- the slice that k has is that of the state
  pub slice_is : (settings_of k).slice ≡ s.settings.slice
  slice_is = ap (λ (t : Settings). t.slice) (sym H.settings.is)

  -- only the processes move
  pub moved_holds : {procs : Procs'.Procs} {next : State.Procs} → Stands.Keeps (Stands.numbers procs) next → Holds (record { procs = procs; mail = k.mail; count = k.count; births = k.births; settings = k.settings }) (move next s)
  moved_holds K = record { procs = K; mail = H.mail; counts = H.counts; births = H.births; settings = H.settings }

  -- only the mail changes
  pub mailed_holds : {mail : Mail'.Mail} {box : ℕ → List Message} {hand : ℕ → Option Message} → Carries.Carries (Carries.numbers mail) box hand
      → Holds (record { procs = k.procs; mail = mail; count = k.count; births = k.births; settings = k.settings }) (record { procs = s.procs; hand = hand; box = box; count = s.count; births = s.births; settings = s.settings })
  mailed_holds C = record { procs = H.procs; mail = C; counts = H.counts; births = H.births; settings = H.settings }

  module _ (S : Sound s) where
    abbrev procs : Stands.Numbers
    procs = Stands.numbers k.procs

    -- the caller joins the rear of queue q; choose
    pub gone_kept : (q : ℕ) → s.procs.running ≢ 0 → classes ≤ q → q < queues → Stands.Keeps (Procs.went_to (settings_of k).slice q procs) (go_to s.settings.slice q s.procs)
    gone_kept q z h h' = rw slice_is (went_kept H.procs (slice_some s S) S.seated S.highest q z h h')

    -- the first of queue q, if someone waits there, is made ready
    abbrev roused : ℕ → List ℕ → State.Procs
    roused q [] = s.procs
    roused q (w ∷ l) = make_ready s.settings.slice w (line q l s.procs)

    roused_kept : (q : ℕ) (l : List ℕ) → classes ≤ q → s.procs.queue q ≡ l → Stands.Keeps (Procs.woken (settings_of k).slice q procs) (roused q l)
    roused_kept q [] h e = rw (woken_nobody H.procs.stands (settings_of k).slice q e) H.procs
    roused_kept q (w ∷ l) h e = rw slice_is (woken_kept H.procs (slice_some s S) S.seated S.highest q w l h e)

    -- p, who is unused, becomes a process of class c, by numbers that are p and c
    pub created_holds : {r : Kernel} {n q d : ℕ} (p c : ℕ) → n ≡ (settings_of k).slice → q ≡ p → d ≡ c → places s.procs p ≡ 0 → 1 ≤ p → p < processes → c < classes
        → Made r (Procs.created n q d procs) (Carries.numbers k.mail) k.count (Names.born k.births q) k.settings → Holds r (Plain.created p c s)
    created_holds p c is e e' free h h' hc M =
        made_holds M (rw (e, e', is ∙ slice_is) (created_kept H.procs (slice_some s S) S.seated S.highest p c free h h' hc)) H.mail H.counts
        (rw e (born_kept H.births p h')) H.settings

    -- p is stopped, by a number that is p's
    pub stopped_holds : {r : Kernel} {q : ℕ} (p : ℕ) → q ≡ p → 1 ≤ p → p < processes → Made r (Procs.halted q procs) (Mail.let_go (Carries.numbers k.mail) q) k.count k.births k.settings → Holds r (Plain.stopped p s)
    stopped_holds {r} p e h h' M =
        made_holds (subst (λ (q : ℕ). Made r (Procs.halted q procs) (Mail.let_go (Carries.numbers k.mail) q) k.count k.births k.settings) e M)
        (halted_kept H.procs (slice_some s S) S.seated S.highest p h h') (let_go_carries H.mail S.mail p h') H.counts H.births H.settings

    -- message x takes its buffers; the first waiter at mailbox m gets it in hand, or it is queued last
    pub delivered_holds : {r : Kernel} (m n : ℕ) (x : List ℕ) → length x ≡ n → m < mailboxes → length x ≤ longest → too_few (needed (length x)) s ≡ false
        → Made r (Procs.woken (settings_of k).slice (at_mailbox m) procs) (Mail.delivered (Carries.numbers k.mail) m (Procs.first_of procs (at_mailbox m)) n) k.count k.births k.settings
        → Holds r (Plain.deliver m (record { lies = lowest_free (needed (length x)) s; bytes = x }) (s.procs.queue (at_mailbox m)) s)
    delivered_holds {r} m n x long hm short enough M = go (s.procs.queue (at_mailbox m)) refl
      where
        y : Message
        y = record { lies = lowest_free (needed (length x)) s; bytes = x }

        carries : (l : List ℕ) → s.procs.queue (at_mailbox m) ≡ l
            → Carries.Carries (Mail.delivered (Carries.numbers k.mail) m (Procs.first_of procs (at_mailbox m)) n) (Plain.deliver m y l s).box (Plain.deliver m y l s).hand
        carries l e = delivered_carries s H.mail S.mail x n long enough short m (Procs.first_of procs (at_mailbox m)) l hm
            (λ h. sym e ∙ first_nobody H.procs (at_mailbox m) refl h)
            (λ h. let f = first_there H.procs (at_mailbox m) refl h in (f.0, sym e ∙ f.1))
            (λ h. let f = first_there H.procs (at_mailbox m) refl h in S.hands.waiters m (Procs.first_of procs (at_mailbox m)) hm (head_in s.settings.slice s.procs S.seated (at_mailbox m) _ f.0 f.1))

        go : (l : List ℕ) → s.procs.queue (at_mailbox m) ≡ l → Holds r (Plain.deliver m y l s)
        go [] e = made_holds M (roused_kept (at_mailbox m) [] (omega arith) e) (carries [] e) H.counts H.births H.settings
        go (w ∷ l) e = made_holds M (roused_kept (at_mailbox m) (w ∷ l) (omega arith) e) (carries (w ∷ l) e) H.counts H.births H.settings

    pub someone_first : (q : ℕ) (l : List ℕ) → s.procs.queue q ≡ l → ltb (Procs.first_of procs q) processes ≡ someone l
    someone_first q [] e = le-ltb (Procs.first_of procs q) processes (first_none H.procs.stands.queues q e)
    someone_first q (w ∷ l) e = let f = first_some H.procs.stands.queues q w l e in lt-ltb (Procs.first_of procs q) processes (omega (arith, f.0, f.1))

    -- the first waiter at semaphore i is made ready, or its count goes up
    pub signalled_holds : {r : Kernel} (i : ℕ) → i < semaphores → s.count i ≢ highest_count
        → Made r (Procs.woken (settings_of k).slice (at_semaphore i) procs) (Carries.numbers k.mail) (Counts.signalled k.count i (ltb (Procs.first_of procs (at_semaphore i)) processes)) k.births k.settings
        → Holds r (Plain.wake i (s.procs.queue (at_semaphore i)) s)
    signalled_holds {r} i h top M = go (s.procs.queue (at_semaphore i)) refl
      where
        counted : (l : List ℕ) → s.procs.queue (at_semaphore i) ≡ l → Counts.Counted (Counts.signalled k.count i (ltb (Procs.first_of procs (at_semaphore i)) processes)) (Plain.wake i l s).count
        counted l e = rw (someone_first (at_semaphore i) l e) (signalled-counted s H.counts i h l (omega (arith, top, S.counts.most i)))

        go : (l : List ℕ) → s.procs.queue (at_semaphore i) ≡ l → Holds r (Plain.wake i l s)
        go [] e = made_holds M (roused_kept (at_semaphore i) [] (omega arith) e) H.mail (counted [] e) H.births H.settings
        go (w ∷ l) e = made_holds M (roused_kept (at_semaphore i) (w ∷ l) (omega arith) e) H.mail (counted (w ∷ l) e) H.births H.settings

    -- a wait that passes semaphore i
    pub claimed_holds : (i : ℕ) → i < semaphores → s.count i ≡ suc (s.count i - 1) → Holds (record { procs = k.procs; mail = k.mail; count = Counts.claimed k.count i; births = k.births; settings = k.settings }) (State.score i (s.count i - 1) s)
    claimed_holds i h e = record {
      procs = H.procs;
      mail = H.mail;
      counts = subst (λ (n : ℕ). Counts.Counted (Counts.claimed k.count i) (Plain.claim i n s).next.count) e (claimed-counted s H.counts i h);
      births = H.births;
      settings = H.settings;
    }

    -- the first message of mailbox m goes into the caller's hand
    pub fetched_carried : (m : ℕ) (x : Message) (l : List Message) → m < mailboxes → s.box m ≡ x ∷ l → Plain.hand s ≡ none
        → Carries.Carries (Mail.fetched (Carries.numbers k.mail) m s.procs.running) (State.fill m l s).box (State.give s.procs.running (some x) s).hand
    fetched_carried m x l h e empty = fetched_carries H.mail m x l h e s.procs.running (runner_range s.settings.slice s.procs S.seated) empty

    -- the caller's hand is emptied
    pub released_carried : Carries.Carries (Mail.let_go (Carries.numbers k.mail) s.procs.running) s.box (State.give s.procs.running none s).hand
    released_carried = let_go_carries H.mail S.mail s.procs.running (runner_range s.settings.slice s.procs S.seated)
