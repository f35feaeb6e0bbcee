-- Every call is a chain of moves, then settling who runs, and keeps a sound state sound.
-- Assumes nothing.
use Prim.Native.Nat.{ℕ, zero, suc, ◌+◌, ◌%◌, ◌≤◌, ◌<◌}
use mathlib.Core.Path.{◌≡◌, refl, sym, ap, ◌∙◌, subst}
use mathlib.Core.Bool.{true, false, true≢false}
use mathlib.Core.Logic.{◌≢◌, ⊎_elim}
use mathlib.Core.List.{List, [], ◌∷◌, ◌++◌, nil≢cons}
use mathlib.Core.Option.{Option, none, some}
use native.Mathlib.Omega.{arith}
use lib.Dec.{leb, eqb}
use lib.ListN.{length}
use borrow.Author.Tests.{ltb-false, leb-false, eqb-false, not-false}
use Rattle.lists.specs.Lists.{put, occurs}
use Rattle.std.proofs.lemmas.Bool.{cases_eq}
use Rattle.lists.proofs.Laws.{put_same, put_other, put_cases, one_other, total_zero}
use Rattle.plain.specs.Sizes.{processes, classes, mailboxes, semaphores, queues, longest, highest_count, at_mailbox, at_semaphore}
use Rattle.plain.specs.State.{Message, Procs, Settings, State, start, usual, move, give, fill, score, line, rank, places, spots, held, free_process}
use Rattle.plain.specs.Pages.{needed, lowest_free, too_few}
use Rattle.plain.specs.Mailboxes.{allot, no_size, refuses, overflows, relieved, buffers_for, no_buffers}
use Rattle.plain.specs.Names.{rounds, born, raised, bare}
use Rattle.plain.specs.Start.{Set, longest_slice}
use Rattle.plain.specs.Runs.{make_ready, go_to, halt}
use Rattle.plain.specs.Calls.{Call, create, stop, end, yield, class, tick, mailbox, send, receive, read, release, signal, wait, perform, refusals, step, after, created, stopped, deliver, fetch, wake, claim, is_empty}
use Rattle.plain.specs.Sound.{Seated, Mail, Hands, Waits, Counts, Sound, In}
use Rattle.plain_laws.specs.History.{Passed, kind, is_tick, as_one}
use Rattle.plain_laws.specs.Names.{begins}
use Rattle.plain_laws.proofs.Names.{birth_sound, unborn, reborn}
use Rattle.plain_laws.proofs.Places.{runs_once}
use Rattle.plain_laws.proofs.Seats.{member, head_in, runner_range, runner_away, chain_seated}
use Rattle.plain_laws.proofs.Settle.{settle-seated, settle-highest}
use Rattle.plain_laws.proofs.Frames.{Framed, Nowhere, Nobody, slice_some, arrived, Moved, Shifted}
use Rattle.plain_laws.proofs.Calls.{judged, accepted, somebody, next_process, create_settles, wake_settles, stayed, made, roused, yields, grades, halted, paused, ticks}
use Rattle.plain_laws.proofs.Refusals.{own-codes}
use Rattle.plain_laws.proofs.Mail.{Fits, fits_free, mail_queue, mail-hand, mail-fetch, mail-drop, mail_lose, mail-allotted}
use Rattle.plain_laws.proofs.Relief.{relieved_by, not_full, idle-box, usual-habits, habits-allotted}

empty_hand_lem : (h : Option Message) → is_empty h ≡ true → h ≡ none
empty_hand_lem none e = refl
empty_hand_lem (some x) e = absurd (true≢false (sym e))

nobody_in : (r : Procs) (q x : ℕ) → r.queue q ≡ [] → In r q x → ⊥
nobody_in r q x e o = omega (arith, ap (occurs x) e)

-- ---- the parts that a move or a message touches

module _ {r r' : Procs} {Enters : ℕ → ℕ → Type 0} {Ends Begins : ℕ → Type 0} (f : Framed r Enters Ends Begins r') where
  -- who newly waits at a mailbox or is newly unused has an empty hand
  hands_framed : (hand : ℕ → Option Message) → Hands r hand → ((m x : ℕ) → m < mailboxes → Enters (at_mailbox m) x → hand x ≡ none) → ((x : ℕ) → Ends x → hand x ≡ none) → Hands r' hand
  hands_framed hand k enters ends = record {
    unused = λ x z. ⊎_elim (λ e. rw e k.null) (λ e. ⊎_elim (λ y. k.unused x y) (λ y. ends x y) (f.unused x (omega arith) z)) (cases_eq x 0);
    null = k.null;
    waiters = λ m x b o. ⊎_elim (λ y. k.waiters m x b y) (λ y. enters m x b y) (f.waiting (at_mailbox m) x (omega arith) o);
  }

  -- where somebody newly waits nothing lies and nothing is counted
  waits_framed : (box : ℕ → List Message) (count : ℕ → ℕ) → Waits r box count → ((m x : ℕ) → m < mailboxes → Enters (at_mailbox m) x → box m ≡ [])
      → ((i x : ℕ) → i < semaphores → Enters (at_semaphore i) x → count i ≡ 0) → Waits r' box count
  waits_framed box count k lies counts = record {
    boxes = λ m x b o. ⊎_elim (λ y. k.boxes m x b y) (λ y. lies m x b y) (f.waiting (at_mailbox m) x (omega arith) o);
    counts = λ i x b o. ⊎_elim (λ y. k.counts i x b y) (λ y. counts i x b y) (f.waiting (at_semaphore i) x (omega arith) o);
  }

module _ (r : Procs) (hand : ℕ → Option Message) (k : Hands r hand) (p : ℕ) where
  hands-emptied : Hands r (put hand p none)
  hands-emptied =
      let still : (x : ℕ) → hand x ≡ none → put hand p none x ≡ none = λ x y. put_cases (λ (a : Option Message). a ≡ none) hand p none x (λ e. refl) (λ d. y) in
      record { unused = λ x z. still x (k.unused x z); null = still 0 k.null; waiters = λ m x b o. still x (k.waiters m x b o) }

  -- p, a used process that waits at no mailbox, has x in hand
  hands-given : (x : Message) → 1 ≤ p → 1 ≤ places r p → ((m : ℕ) → occurs p (r.queue (at_mailbox m)) ≡ 0) → Hands r (put hand p (some x))
  hands-given x h used away =
      let still : (y : ℕ) → y ≢ p → hand y ≡ none → put hand p (some x) y ≡ none = λ y d e. put_other hand p (some x) y d ∙ e in
      record {
        unused = λ y z. still y (λ d. omega (arith, ap (places r) d)) (k.unused y z);
        null = still 0 (omega arith) k.null;
        waiters = λ m y b o. still y (λ d. omega (arith, away m, subst (λ (i : ℕ). In r (at_mailbox m) i) d o)) (k.waiters m y b o);
      }

module _ (r : Procs) (box : ℕ → List Message) (count : ℕ → ℕ) (k : Waits r box count) where
  waits_filled : (m : ℕ) (l : List Message) → ((x : ℕ) → In r (at_mailbox m) x → l ≡ []) → Waits r (put box m l) count
  waits_filled m l z = record {
    boxes = λ i x b. put_cases (λ (a : List Message). In r (at_mailbox i) x → a ≡ []) box m l i (λ d o. z x (subst (λ (y : ℕ). In r (at_mailbox y) x) d o)) (λ d. k.boxes i x b);
    counts = k.counts;
  }

  waits_scored : (i n : ℕ) → ((x : ℕ) → In r (at_semaphore i) x → n ≡ 0) → Waits r box (put count i n)
  waits_scored i n z = record {
    boxes = k.boxes;
    counts = λ j x b. put_cases (λ (a : ℕ). In r (at_semaphore j) x → a ≡ 0) count i n j (λ d o. z x (subst (λ (y : ℕ). In r (at_semaphore y) x) d o)) (λ d. k.counts j x b);
  }

counts_scored : (count : ℕ → ℕ) → Counts count → (i n : ℕ) → i < semaphores → n ≤ highest_count → Counts (put count i n)
counts_scored count k i n h top = record {
  most = λ j. put_cases (λ (a : ℕ). a ≤ highest_count) count i n j (λ d. top) (λ d. k.most j);
  no_more = λ j b. put_other count i n j (omega arith) ∙ k.no_more j b;
}

-- ---- each move and each message

-- only processes move: who newly waits has an empty hand where messages come, and nothing lies there; who is newly unused has one
shifted_sound : (s : State) → Sound s → (d : ℕ) (Enters : ℕ → ℕ → Type 0) (Ends Begins : ℕ → Type 0) (r' : Procs) → Shifted s.settings.slice s.procs d Enters Ends Begins r'
    → ((m x : ℕ) → m < mailboxes → Enters (at_mailbox m) x → (s.hand x ≡ none) × (s.box m ≡ [])) → ((i x : ℕ) → i < semaphores → Enters (at_semaphore i) x → s.count i ≡ 0)
    → ((x : ℕ) → Ends x → s.hand x ≡ none) → Sound (move r' s)
shifted_sound s k d Enters Ends Begins r' v at-boxes at-counts ends =
    let n : ℕ = s.settings.slice in
    let to = v.moved.to in
    let seated : Seated n to = chain_seated n s.procs k.seated d to (slice_some s k) v.moved.chain in
    record {
      settings = k.settings;
      seated = rw v.moved.settled (settle-seated n to seated);
      highest = rw v.moved.settled (settle-highest n to seated);
      mail = k.mail;
      hands = hands_framed v.framed s.hand k.hands (λ m x b y. (at-boxes m x b y).0) ends;
      waits = waits_framed v.framed s.box s.count k.waits (λ m x b y. (at-boxes m x b y).1) at-counts;
      counts = k.counts;
      births = k.births;
    }

-- a number's birth is counted
born_sound : (s : State) → Sound s → (p : ℕ) → 1 ≤ p → p < processes → Sound (born p (raised (s.births p)) s)
born_sound s k p h h' = record {
  settings = k.settings;
  seated = k.seated;
  highest = k.highest;
  mail = k.mail;
  hands = k.hands;
  waits = k.waits;
  counts = k.counts;
  births = birth_sound s.births k.births p h h';
}

-- only messages move
mail_sound : (s : State) → Sound s → (box : ℕ → List Message) (hand : ℕ → Option Message) → Mail s.settings.capacity box hand → Hands s.procs hand → Waits s.procs box s.count
    → Sound (record { procs = s.procs; hand = hand; box = box; count = s.count; births = s.births; settings = s.settings })
mail_sound s k box hand mail hands waits = record { settings = k.settings; seated = k.seated; highest = k.highest; mail = mail; hands = hands; waits = waits; counts = k.counts; births = k.births }

module _ (s : State) (k : Sound s) where
  abbrev n : ℕ
  n = s.settings.slice

  -- a number's birth count is raised where the number begins, and else it stays
  abbrev Tallies : State → Type 0
  Tallies t = (x : ℕ) → 1 ≤ x → t.births x ≡ (s.births x + as_one (begins s.procs t.procs x)) % rounds

  -- t is sound, its processes stand as after a chain of moves with d ticks, settled, and births are counted
  abbrev Goes : ℕ → State → Type 0
  Goes d t = Sound t × Moved n s.procs d t.procs × Tallies t

  -- nobody is newly used
  untold : {d : ℕ} {Enters : ℕ → ℕ → Type 0} {Ends : ℕ → Type 0} (r' : Procs) → Shifted n s.procs d Enters Ends Nobody r' → Tallies (move r' s)
  untold r' v x h = unborn s.procs r' (s.births x) x (k.births.most x) (λ z. ⊎_elim (λ e. e) (λ y. absurd y) (v.framed.rests x h z))

  -- nobody newly waits, and nobody is newly unused
  calm : (d : ℕ) (r' : Procs) → Shifted n s.procs d Nowhere Nobody Nobody r' → Goes d (move r' s)
  calm d r' v = (shifted_sound s k d Nowhere Nobody Nobody r' v (λ m x b y. absurd y) (λ i x b y. absurd y) (λ x y. absurd y), v.moved, untold r' v)

  -- a number becomes a process
  creates : (c : ℕ) → leb classes c ≡ false → eqb (free_process s.procs) processes ≡ false → Goes 0 (created (free_process s.procs) c s)
  creates c e e' =
      let p : ℕ = free_process s.procs in
      let y = next_process s.procs e' in
      let hc = leb-false classes c e in
      let r' : Procs = make_ready n p (rank p c s.procs) in
      let v = made s k c e e' in
      let there = arrived n p c s.procs r' (slice_some s k) k.seated hc y.0 y.1 (create_settles n s.procs k.seated k.highest p c y.2 hc) in
      let b : ℕ = raised (s.births p) in (
        shifted_sound (born p b s) (born_sound s k p y.0 y.1) 0 Nowhere Nobody _ r' v (λ m x h z. absurd z) (λ i x h z. absurd z) (λ x z. absurd z),
        v.moved,
        λ x h. put_cases (λ (a : ℕ). a ≡ (s.births x + as_one (begins s.procs r' x)) % rounds) s.births p b x
            (λ d. rw d (reborn s.procs r' (s.births p) p y.2 (omega (arith, there.0))))
            (λ d. unborn s.procs r' (s.births x) x (k.births.most x) (λ z. ⊎_elim (λ a. a) (λ a. absurd (d a)) (v.framed.rests x h z))),
      )

  -- no process moves
  still : (t : State) → t.procs ≡ s.procs → t.births ≡ s.births → Sound t → Goes 0 t
  still t e e' k' = (k', rw e (stayed s k).moved, λ x h. rw (e, e') (unborn s.procs s.procs (s.births x) x (k.births.most x) (λ z. z)))

  -- the hand of p is emptied
  released : (p : ℕ) → p < processes → Sound (give p none s)
  released p h = mail_sound s k s.box (put s.hand p none) (mail-drop s.settings.capacity s.box s.hand k.mail p h) (hands-emptied s.procs s.hand k.hands p) k.waits

  -- p is stopped, and its hand emptied
  stops : (p : ℕ) → 1 ≤ p → p < processes → Goes 0 (stopped p s)
  stops p h h' = (
    shifted_sound (give p none s) (released p h') 0 Nowhere (λ x. x ≡ p) Nobody (halt p s.procs) (halted s k p h)
        (λ m x b y. absurd y) (λ i x b y. absurd y) (λ x e. rw e (put_same s.hand p none)),
    (halted s k p h).moved,
    untold (halt p s.procs) (halted s k p h),
  )

  -- the caller waits at queue q: with an empty hand where messages come, and nothing lies there
  pauses : (q : ℕ) → s.procs.running ≢ 0 → classes ≤ q → q < queues
      → ((m : ℕ) → m < mailboxes → at_mailbox m ≡ q → (s.hand s.procs.running ≡ none) × (s.box m ≡ [])) → ((i : ℕ) → i < semaphores → at_semaphore i ≡ q → s.count i ≡ 0)
      → Goes 0 (move (go_to n q s.procs) s)
  pauses q z h₅ hq no-mail no-count =
      let v = paused s k q z h₅ hq in
      (shifted_sound s k 0 _ Nobody Nobody (go_to n q s.procs) v (λ m x b y. rw y.1 (no-mail m b y.0)) (λ i x b y. no-count i b y.0) (λ x y. absurd y), v.moved, untold (go_to n q s.procs) v)

  -- a message is queued last where nobody waits, or handed to the first waiter
  delivers : (m : ℕ) (x : Message) (l : List ℕ) → m < mailboxes → length (s.box m) < s.settings.capacity m → Fits s.box s.hand x → s.procs.queue (at_mailbox m) ≡ l → Goes 0 (deliver m x l s)
  delivers m x [] h room f e =
      let l : List Message = s.box m ++ (x ∷ []) in
      still _ refl refl (mail_sound s k (put s.box m l) s.hand (mail_queue s.settings.capacity s.box s.hand k.mail m x h room f) k.hands
      (waits_filled s.procs s.box s.count k.waits m l (λ p o. absurd (nobody_in s.procs (at_mailbox m) p e o))))
  delivers m x (w ∷ l) h room f e =
      let here : In s.procs (at_mailbox m) w = head_in n s.procs k.seated (at_mailbox m) w l e in
      let who = member n s.procs k.seated (at_mailbox m) w here in
      let r' : Procs = make_ready n w (line (at_mailbox m) l s.procs) in
      let g : Goes 0 (move r' s) = calm 0 r' (roused s k (at_mailbox m) w l (omega arith) e) in
      let there = arrived n w (s.procs.class w) s.procs r' (slice_some s k) k.seated (k.seated.in_class w) who.0 who.1 (wake_settles n s.procs k.seated k.highest (at_mailbox m) w l (omega arith) e) in (
        mail_sound (move r' s) g.0 s.box (put s.hand w (some x))
            (mail-hand s.settings.capacity s.box s.hand k.mail w x who.1 (k.hands.waiters m w h here) f)
            (hands-given r' s.hand g.0.hands w x who.0 (omega (arith, there.0)) (λ i. there.1 (at_mailbox i) (omega arith))) g.0.waits,
        g.1,
        g.2,
      )

  -- a mailbox takes c messages from now on and is of mode d, where nothing lies there
  allots : (m c d : ℕ) → m < mailboxes → no_size c d ≡ false → s.box m ≡ [] → Goes 0 (allot m c d s)
  allots m c d h e empty = still _ refl refl (record {
    settings = record { some_ticks = k.settings.some_ticks; not_over = k.settings.not_over; habits = habits-allotted s.settings k.settings.habits m c d h e };
    seated = k.seated;
    highest = k.highest;
    mail = mail-allotted s.settings.capacity s.box s.hand k.mail m c empty;
    hands = k.hands;
    waits = k.waits;
    counts = k.counts;
    births = k.births;
  })

  -- a mailbox loses its first message
  loses : (m : ℕ) (x : Message) (l : List Message) → m < mailboxes → s.box m ≡ x ∷ l → Sound (fill m l s)
  loses m x l h e = mail_sound s k (put s.box m l) s.hand (mail_lose s.settings.capacity s.box s.hand k.mail m x l h e) k.hands
      (waits_filled s.procs s.box s.count k.waits m l (λ p o. absurd (nil≢cons (sym (k.waits.boxes m p h o) ∙ e))))

  -- a send finds the state as it is, or without the first message of a mailbox that overflows
  relieves : (m : ℕ) (P : State → Type 0) → (overflows m s ≡ false → P s) → ((x : Message) (l : List Message) → s.box m ≡ x ∷ l → P (fill m l s)) → P (relieved m s)
  relieves m P f g = relieved_by m s P (k.settings.habits.some m) f (λ x l e o. g x l e)

  pub relieved_sound : (m : ℕ) → m < mailboxes → Sound (relieved m s)
  relieved_sound m h = relieves m Sound (λ e. k) (λ x l e. loses m x l h e)

  -- the caller's hand takes the first message of a mailbox
  hand_sound : (m : ℕ) (x : Message) (l : List Message) → s.procs.running ≢ 0 → m < mailboxes → s.box m ≡ x ∷ l → s.hand s.procs.running ≡ none
      → Sound (give s.procs.running (some x) (fill m l s))
  hand_sound m x l z h e empty =
      let r : ℕ = s.procs.running in
      mail_sound s k (put s.box m l) (put s.hand r (some x))
      (mail-fetch s.settings.capacity s.box s.hand k.mail m r x l h (runner_range n s.procs k.seated) e empty)
      (hands-given s.procs s.hand k.hands r x (omega arith) (runs_once s.procs) (λ i. runner_away n s.procs k.seated (at_mailbox i)))
      (waits_filled s.procs s.box s.count k.waits m l (λ p o. absurd (nil≢cons (sym (k.waits.boxes m p h o) ∙ e))))

  -- a semaphore counts c, where nobody waits or c is 0
  scores : (i c : ℕ) → i < semaphores → c ≤ highest_count → ((x : ℕ) → In s.procs (at_semaphore i) x → c ≡ 0) → Goes 0 (score i c s)
  scores i c h top z = still _ refl refl (record {
    settings = k.settings;
    seated = k.seated;
    highest = k.highest;
    mail = k.mail;
    hands = k.hands;
    waits = waits_scored s.procs s.box s.count k.waits i c z;
    counts = counts_scored s.count k.counts i c h top;
    births = k.births;
  })

  fetches : (m : ℕ) (l : List Message) → s.procs.running ≢ 0 → m < mailboxes → is_empty (s.hand s.procs.running) ≡ true → s.box m ≡ l → Goes 0 (fetch m l s).next
  fetches m [] z h e b =
      pauses (at_mailbox m) z (omega arith) (omega arith)
      (λ i _ d. (empty_hand_lem (s.hand s.procs.running) e, subst (λ (j : ℕ). s.box j ≡ []) (omega arith) b)) (λ i h' d. absurd (omega arith))
  fetches m (x ∷ l) z h e b = still _ refl refl (hand_sound m x l z h b (empty_hand_lem (s.hand s.procs.running) e))

  wakes : (i : ℕ) (l : List ℕ) → i < semaphores → s.count i ≢ highest_count → s.procs.queue (at_semaphore i) ≡ l → Goes 0 (wake i l s)
  wakes i [] h top e = scores i (s.count i + 1) h (omega (arith, k.counts.most i)) (λ x o. absurd (nobody_in s.procs (at_semaphore i) x e o))
  wakes i (w ∷ l) h top e = calm 0 (make_ready n w (line (at_semaphore i) l s.procs)) (roused s k (at_semaphore i) w l (omega arith) e)

  claims : (i c : ℕ) → s.procs.running ≢ 0 → i < semaphores → s.count i ≡ c → Goes 0 (claim i c s).next
  claims i zero z h e = pauses (at_semaphore i) z (omega arith) (omega arith) (λ m h' d. absurd (omega arith)) (λ j h' d. subst (λ (y : ℕ). s.count y ≡ 0) (omega arith) e)
  claims i (suc c) z h e = scores i c h (omega (arith, k.counts.most i)) (λ x o. absurd (omega (arith, k.waits.counts i x h o)))

  -- the lowest free buffer takes a message for a mailbox that is not full, or has lost its oldest one
  posts : (m : ℕ) (b : List ℕ) → m < mailboxes → length b ≤ longest → refuses m s ≡ false → no_buffers m b s ≡ false
      → Goes 0 (deliver m (record { lies = buffers_for m b s; bytes = b }) (s.procs.queue (at_mailbox m)) (relieved m s))
  posts m b h short willing = relieves m
      (λ t. too_few (needed (length b)) t ≡ false → Goes 0 (deliver m (record { lies = lowest_free (needed (length b)) t; bytes = b }) (s.procs.queue (at_mailbox m)) t))
      (λ e z. delivers m (record { lies = lowest_free (needed (length b)) s; bytes = b }) (s.procs.queue (at_mailbox m)) h (leb-false (s.settings.capacity m) (length (s.box m)) (not_full m s willing e)) (fits_free s b k.mail z short) refl)
      (λ x l e z.
      let t : State = fill m l s in
      let j : Sound t = loses m x l h e in
      Rattle.plain_laws.proofs.Sound.delivers t j m (record { lies = lowest_free (needed (length b)) t; bytes = b }) (s.procs.queue (at_mailbox m)) h
      (omega (arith, ap length (put_same s.box m l), k.mail.at_most m, ap length e)) (fits_free t b j.mail z short) refl)

  performed : (c : Call) → Passed (refusals s c) → Goes (as_one (is_tick (kind c))) (perform s c).next
  unfolding perform refusals
  performed (create c) x = creates c x.0 x.1.0
  performed (stop i) x = let w = somebody i s x.0 in stops (bare i) w.0 w.1
  performed end x = let z = eqb-false s.procs.running 0 x.0 in stops s.procs.running (omega arith) (runner_range n s.procs k.seated)
  performed yield x = calm 0 _ (yields s k (eqb-false s.procs.running 0 x.0))
  performed (class c) x = calm 0 _ (grades s k c (eqb-false s.procs.running 0 x.0) (leb-false classes c x.1.0))
  performed tick x = calm 1 _ (ticks s k)
  performed (mailbox m c d) x = allots m c d (leb-false mailboxes m x.0) x.1.0 (idle-box m s x.1.1.0).0
  performed (send m b) x = posts m b (leb-false mailboxes m x.0) (ltb-false longest (length b) x.1.0) x.1.1.0 x.1.1.1.0
  performed (receive m) x = fetches m (s.box m) (eqb-false s.procs.running 0 x.0) (leb-false mailboxes m x.1.0) (not-false (is_empty (s.hand s.procs.running)) x.1.1.0) refl
  performed (read room) x = still s refl refl k
  performed release x = still _ refl refl (released s.procs.running (runner_range n s.procs k.seated))
  performed (signal i) x = wakes i (s.procs.queue (at_semaphore i)) (leb-false semaphores i x.0) (eqb-false (s.count i) highest_count x.1.0) refl
  performed (wait i) x = claims i (s.count i) (eqb-false s.procs.running 0 x.0) (leb-false semaphores i x.1.0) refl

  -- every call, refused ones too
  stepped : (c : Call) → Goes (as_one (is_tick (kind c))) (step s c).next
  unfolding step
  stepped c = ⊎_elim
      (λ (e : as_one (is_tick (kind c)) ≡ 0). judged (Goes (as_one (is_tick (kind c)))) (refusals s c) s (perform s c) (subst (λ (d : ℕ). Goes d s) (sym e) (still s refl refl k)) (performed c))
      (λ (x : Passed (refusals s c)). rw (accepted (refusals s c) s (perform s c) x) (performed c x))
      (own-codes s c).1

  pub step_sound : (c : Call) → Sound (step s c).next
  step_sound c = (stepped c).0

  pub step_moved : (c : Call) → Moved n s.procs (as_one (is_tick (kind c))) (step s c).next.procs
  step_moved c = (stepped c).1

  pub step_tallies : (c : Call) → Tallies (step s c).next
  step_tallies c = (stepped c).2

-- ---- from fresh

pub usual_set : Set usual
unfolding longest_slice
usual_set = record { some_ticks = omega arith; not_over = omega arith; habits = usual-habits }

pub start_sound : (x : Settings) → Set x → Sound (start x)
unfolding spots held
start_sound x z =
    let nowhere : (p : ℕ) → 1 ≤ p → places (start x).procs p ≡ 0 = λ p h. omega (arith, total_zero queues (λ q. 0) (λ q b. refl), one_other 0 p (omega arith)) in
    let nothing : (b : ℕ) → held (start x).box (start x).hand b ≡ 0 = λ b. omega (arith, total_zero mailboxes (λ m. 0) (λ m d. refl), total_zero processes (λ p. 0) (λ p d. refl)) in
    record {
      settings = z;
      seated = record {
        one_place = λ p h. omega (arith, nowhere p h);
        own_class = λ c p h o. absurd (omega arith);
        null_nowhere = λ q. refl;
        nobody_else = λ p h. nowhere p (omega arith);
        no_more_queues = λ q h. refl;
        in_class = λ p. omega arith;
        ticks_left = λ p h o. absurd (omega (arith, nowhere p h));
        ticks_most = λ p. omega arith;
        waiter_ticks = λ q p h o. absurd (omega arith);
        null_zeros = (refl, refl);
        unused_zeros = λ p z. (refl, refl);
      };
      highest = λ c h up. refl;
      mail = record {
        held_once = λ b. omega (arith, nothing b);
        no_more_buffers = λ b h. nothing b;
        queued = λ m. tt;
        all_in_hands = λ p. tt;
        at_most = λ m. omega arith;
        no_more_boxes = λ m h. refl;
      };
      hands = record { unused = λ p z. refl; null = refl; waiters = λ m p h o. refl };
      waits = record { boxes = λ m p h o. refl; counts = λ i p h o. refl };
      counts = record { most = λ i. omega arith; no_more = λ i h. refl };
      births = record { null = refl; most = λ p. omega arith; no_more = λ p h. refl };
    }

pub after_sound : (s : State) (cs : List Call) → Sound s → Sound (after s cs)
unfolding after
after_sound s [] k = k
after_sound s (c ∷ cs) k = after_sound (step s c).next cs (step_sound s k c)
