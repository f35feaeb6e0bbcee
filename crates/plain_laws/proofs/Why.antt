-- Why a process waits: of each process of a sound state exactly one reason is true, and it is the one that is given.
-- Assumes nothing.
use Prim.Native.Nat.{ℕ, suc, ◌+◌, ◌-◌, ◌≤◌, ◌<◌}
use mathlib.Core.Bool.{true, false, not, true≢false}
use mathlib.Core.List.{◌∷◌}
use mathlib.Core.Logic.{◌≢◌, inl, inr, ⊎_elim}
use mathlib.Core.Path.{◌≡◌, refl, sym, ap, ◌∙◌, subst}
use native.Mathlib.Omega.{arith}
use lib.Dec.{ltb, eqb}
use lib.ListN.{length, length-append}
use borrow.Author.Tests.{eqb-true, eqb-false, eq-eqb, ne_eqb, lt-ltb, le-ltb, ltb-true, not-true}
use Rattle.std.specs.Prelude.{if◌then◌else◌}
use Rattle.lists.specs.Lists.{occurs, ahead}
use Rattle.std.proofs.lemmas.Bool.{cases_Bool, and_parts, cases_eq}
use Rattle.lists.proofs.Laws.{le?, one_same, one_other, occurs-append, lowest-passes, lowest_is, lowest_none, total_zero, at_most, stands, ahead_split}
use Rattle.plain.specs.Sizes.{processes, classes, mailboxes, semaphores, at_mailbox, at_semaphore, queues}
use Rattle.plain.specs.State.{Procs, State, level, spots, places}
use Rattle.plain.specs.Sound.{In, Sound}
use Rattle.plain.specs.Listing.{queue_of}
use Rattle.plain.specs.Why.{Reason, unused, running, ready, mailbox, semaphore, behind, Stands, RunnerOf, Says, is_runner_of, reason_in, reason, Numbers, numbers}
use Rattle.plain_laws.proofs.Places.{runs_once}
use Rattle.plain_laws.proofs.Seats.{queue_range, member, runner_range, one_queue, queue_once, queued_rests, nowhere}

-- ---- the queue in which one stands

module _ (s : State) (p : ℕ) where
  pub queue_is : (q : ℕ) → q < queues → In s.procs q p → ((j : ℕ) → j ≢ q → occurs p (s.procs.queue j) ≡ 0) → queue_of s p ≡ q
  unfolding queue_of
  queue_is q h o other = lowest_is 0 queues q (λ i. ltb 0 (occurs p (s.procs.queue i))) (omega arith) h (lt-ltb 0 (occurs p (s.procs.queue q)) o) (λ j a b. rw (other j (λ e. omega (arith, e, b))))

  pub queue_none : ((j : ℕ) → occurs p (s.procs.queue j) ≡ 0) → queue_of s p ≡ queues
  unfolding queue_of
  queue_none a = lowest_none 0 queues (λ i. ltb 0 (occurs p (s.procs.queue i))) (λ j x y. rw (a j))

  queue_in : queue_of s p ≢ queues → In s.procs (queue_of s p) p
  unfolding queue_of
  queue_in d = ltb-true 0 _ (lowest-passes 0 queues (λ i. ltb 0 (occurs p (s.procs.queue i))) d).2

-- ---- whether the runner is of a class

module _ (s : Procs) (c : ℕ) where
  is_of : RunnerOf s c → is_runner_of s c ≡ true
  is_of r = rw (ne_eqb s.running 0 r.0, eq-eqb (level s s.running) c r.1)

  runner_of : is_runner_of s c ≡ true → RunnerOf s c
  runner_of t =
      let a = and_parts (not (eqb s.running 0)) (eqb (level s s.running) c) t in
      (eqb-false s.running 0 (not-true (eqb s.running 0) a.0), eqb-true (level s s.running) c a.1)

  not_of : is_runner_of s c ≡ false → RunnerOf s c → ⊥
  not_of e r = true≢false (sym (is_of r) ∙ e)

  no_runner : (RunnerOf s c → ⊥) → is_runner_of s c ≡ false
  no_runner d = ⊎_elim (λ t. absurd (d (runner_of t))) (λ f. f) (cases_Bool (is_runner_of s c))

-- ---- who stands in a queue of a sound state

module _ (s : State) (S : Sound s) where
  -- p stands in queue q with n before it
  module _ (q p n : ℕ) (w : Stands s.procs q p n) where
    twice : occurs p (s.procs.queue q) ≡ occurs p w.before + (1 + occurs p w.after)
    twice = ap (occurs p) w.whole ∙ occurs-append p w.before (p ∷ w.after) ∙ rw (one_same p)

    there : In s.procs q p
    there = omega (arith, twice)

    n-ahead : ahead p (s.procs.queue q) ≡ n
    n-ahead = ap (ahead p) w.whole ∙ ahead_split p w.before w.after (omega (arith, queue_once _ _ S.seated q p there, twice)) ∙ w.many

    given_there : reason s p ≡ reason_in s.procs q n
    unfolding reason
    given_there =
        let rests : p ≢ s.procs.running = λ e. queued_rests _ _ S.seated q p there (sym e) in
        let process : p ≢ 0 = λ e. omega (arith, e, (member _ _ S.seated q p there).0) in
        rw (ne_eqb p s.procs.running rests, ne_eqb p 0 process, queue_is s p q (queue_range _ _ S.seated q p there) there (λ j d. one_queue _ _ S.seated q j p there d), n-ahead)

-- ---- the reason by the queue

module _ (s : Procs) (n : ℕ) where
  in_class : (c : ℕ) → c < classes → is_runner_of s c ≡ true → reason_in s c n ≡ ready (suc n)
  unfolding reason_in
  in_class c h t = rw (lt-ltb c classes h, t)

  in_another : (c : ℕ) → c < classes → is_runner_of s c ≡ false → reason_in s c n ≡ behind s.running
  unfolding reason_in
  in_another c h t = rw (lt-ltb c classes h, t)

  at_a_mailbox : (x : ℕ) → x < mailboxes → reason_in s (at_mailbox x) n ≡ mailbox x n
  unfolding reason_in
  at_a_mailbox x h =
      let e : classes + x - classes ≡ x = omega arith in
      rw (le-ltb (classes + x) classes (omega arith), lt-ltb (classes + x) (classes + mailboxes) (omega arith), e)

  at_a_semaphore : (x : ℕ) → x < semaphores → reason_in s (at_semaphore x) n ≡ semaphore x n
  unfolding reason_in
  at_a_semaphore x h =
      let e : classes + mailboxes + x - (classes + mailboxes) ≡ x = omega arith in
      rw (le-ltb (classes + mailboxes + x) classes (omega arith), le-ltb (classes + mailboxes + x) (classes + mailboxes) (omega arith), lt-ltb (classes + mailboxes + x) queues (omega arith), e)

  in_none : reason_in s queues n ≡ unused
  unfolding reason_in
  in_none = refl

-- ---- who runs, who stands by, who stands nowhere

module _ (s : State) (p : ℕ) where
  given_running : p ≡ s.procs.running → reason s p ≡ running
  unfolding reason
  given_running e = rw (eq-eqb p s.procs.running e)

  given_null : p ≢ s.procs.running → p ≡ 0 → reason s p ≡ behind s.procs.running
  unfolding reason
  given_null d e = rw (ne_eqb p s.procs.running d, eq-eqb p 0 e)

  given_nowhere : p ≢ s.procs.running → p ≢ 0 → queue_of s p ≡ queues → reason s p ≡ unused
  unfolding reason
  given_nowhere d e q = rw (ne_eqb p s.procs.running d, ne_eqb p 0 e, q) (in_none s.procs (ahead p (s.procs.queue queues)))

-- ---- exactly one

module _ (s : State) (S : Sound s) (p : ℕ) where
  -- one who stands in a list stands there with so many before it
  in_line : (q : ℕ) → In s.procs q p → (n : ℕ) × Stands s.procs q p n
  in_line q o = let w = stands p (s.procs.queue q) o in (length w.before, record { before = w.before; after = w.behind; whole = w.whole; many = refl })

  own_class : level s.procs p < classes
  own_class = S.seated.in_class p

  pub only : (r : Reason) → Says s.procs p r → r ≡ reason s p
  only unused (d, z) = sym (given_nowhere s p
      (λ e. omega (arith, z, subst (λ (x : ℕ). 1 ≤ places s.procs x) (sym e) (runs_once s.procs))) d
      (queue_none s p (λ j. nowhere _ _ S.seated p j z)))
  only running e = sym (given_running s p e)
  only (ready n) (r, (m, w, e)) = rw e (sym (given_there s S (level s.procs p) p m w ∙ in_class s.procs m (level s.procs p) own_class (is_of s.procs (level s.procs p) r)))
  only (mailbox x n) (h, w) = sym (given_there s S (at_mailbox x) p n w ∙ at_a_mailbox s.procs n x h)
  only (semaphore x n) (h, w) = sym (given_there s S (at_semaphore x) p n w ∙ at_a_semaphore s.procs n x h)
  only (behind q) (inl (o, d), e) =
      let w = in_line (level s.procs p) o in
      rw e (sym (given_there s S (level s.procs p) p w.0 w.1 ∙ in_another s.procs w.0 (level s.procs p) own_class (no_runner s.procs (level s.procs p) d)))
  only (behind q) (inr (z, d), e) = rw e (sym (given_null s p (λ u. d (sym u ∙ z)) z))

  -- of one who stands in queue q
  says_in : (q n : ℕ) → Stands s.procs q p n → Says s.procs p (reason_in s.procs q n)
  says_in q n w = ⊎_elim
      (λ (h : classes ≤ q). ⊎_elim
      (λ (h' : classes + mailboxes ≤ q).
      let x : ℕ = q - (classes + mailboxes) in
      let low : x < semaphores = omega (arith, queue_range _ _ S.seated q p (there s S q p n w)) in
      let e : q ≡ at_semaphore x = omega arith in
      subst (λ (i : ℕ). Says s.procs p (reason_in s.procs i n)) (sym e) (rw (at_a_semaphore s.procs n x low) (low, subst (λ (i : ℕ). Stands s.procs i p n) e w)))
      (λ (h' : q < classes + mailboxes).
      let x : ℕ = q - classes in
      let low : x < mailboxes = omega arith in
      let e : q ≡ at_mailbox x = omega arith in
      subst (λ (i : ℕ). Says s.procs p (reason_in s.procs i n)) (sym e) (rw (at_a_mailbox s.procs n x low) (low, subst (λ (i : ℕ). Stands s.procs i p n) e w)))
      (le? (classes + mailboxes) q))
      (λ (h : q < classes). let own : level s.procs p ≡ q = S.seated.own_class q p h (there s S q p n w) in ⊎_elim
      (λ (t : is_runner_of s.procs q ≡ true). rw (in_class s.procs n q h t) (subst (RunnerOf s.procs) (sym own) (runner_of s.procs q t), (n, subst (λ (i : ℕ). Stands s.procs i p n) (sym own) w, refl)))
      (λ (t : is_runner_of s.procs q ≡ false). rw (in_another s.procs n q h t) (inl (subst (λ (i : ℕ). In s.procs i p) (sym own) (there s S q p n w), λ r. not_of s.procs q t (subst (RunnerOf s.procs) own r)), refl))
      (cases_Bool (is_runner_of s.procs q)))
      (le? classes q)

  -- who is in no queue and does not run is unused
  in_no_place : p ≢ s.procs.running → queue_of s p ≡ queues → places s.procs p ≡ 0
  unfolding spots
  in_no_place d none = omega (
    arith,
    one_other s.procs.running p (λ e. d (sym e)),
    total_zero queues (λ q. occurs p (s.procs.queue q)) (λ q h. ⊎_elim
        (λ (u : In s.procs q p). absurd (omega (arith, h, none, queue_is s p q h u (λ j e. one_queue _ _ S.seated q j p u e))))
        (λ (u : occurs p (s.procs.queue q) < 1). omega arith)
        (le? 1 (occurs p (s.procs.queue q)))),
  )

  pub holds : Says s.procs p (reason s p)
  holds = ⊎_elim
      (λ (e : p ≡ s.procs.running). rw (given_running s p e) e)
      (λ (d : p ≢ s.procs.running). ⊎_elim
      (λ (z : p ≡ 0). rw (given_null s p d z) (inr (z, λ r. d (z ∙ sym r)), refl))
      (λ (z : p ≢ 0). ⊎_elim
      (λ (none : queue_of s p ≡ queues). rw (given_nowhere s p d z none) (z, in_no_place d none))
      (λ (some : queue_of s p ≢ queues). let w = in_line (queue_of s p) (queue_in s p some) in rw (given_there s S (queue_of s p) p w.0 w.1) (says_in (queue_of s p) w.0 w.1))
      (cases_eq (queue_of s p) queues))
      (cases_eq p 0))
      (cases_eq p s.procs.running)

-- ---- the numbers of a true reason are those of processes, mailboxes and semaphores

module _ (s : State) (S : Sound s) (p : ℕ) where
  few : (q : ℕ) → length (s.procs.queue q) ≤ processes
  few q = at_most processes (s.procs.queue q) (λ x o. (member _ _ S.seated q x o).1) (λ x. ⊎_elim
      (λ (o : In s.procs q x). queue_once _ _ S.seated q x o)
      (λ (o : occurs x (s.procs.queue q) < 1). omega arith)
      (le? 1 (occurs x (s.procs.queue q))))

  ahead_few : (q n : ℕ) → Stands s.procs q p n → n < processes
  ahead_few q n w = omega (arith, w.many, few q, ap length w.whole, length-append w.before (p ∷ w.after))

  says_small : (r : Reason) → Says s.procs p r → ((numbers r).which < processes) × ((numbers r).ahead ≤ processes)
  says_small unused w = (omega arith, omega arith)
  says_small running w = (omega arith, omega arith)
  says_small (ready n) (r, (m, w, e)) = (omega arith, omega (arith, e, ahead_few (level s.procs p) m w))
  says_small (mailbox x n) (h, w) = (omega (arith, h), omega (arith, ahead_few (at_mailbox x) n w))
  says_small (semaphore x n) (h, w) = (omega (arith, h), omega (arith, ahead_few (at_semaphore x) n w))
  says_small (behind q) (w, e) = (omega (arith, e, runner_range _ _ S.seated), omega arith)

  pub small : ((numbers (reason s p)).which < processes) × ((numbers (reason s p)).ahead ≤ processes)
  small = says_small (reason s p) (holds s S p)

-- ---- the numbers tell reasons apart

abbrev named : Numbers → Reason
named n =
    if eqb n.kind 0 then unused
    else (if eqb n.kind 1 then running
    else (if eqb n.kind 2 then ready n.ahead
    else (if eqb n.kind 3 then mailbox n.which n.ahead
    else (if eqb n.kind 4 then semaphore n.which n.ahead
    else behind n.which))))

named_back : (r : Reason) → named (numbers r) ≡ r
named_back unused = refl
named_back running = refl
named_back (ready n) = refl
named_back (mailbox x n) = refl
named_back (semaphore x n) = refl
named_back (behind q) = refl

pub told_apart : (r r' : Reason) → numbers r ≡ numbers r' → r ≡ r'
told_apart r r' e = sym (named_back r) ∙ ap named e ∙ named_back r'
