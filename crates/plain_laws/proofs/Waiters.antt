-- Nobody barges in: those who wait in a queue, any of them, over any calls, and the messages that they get.
-- Assumes nothing.
use Prim.Native.Nat.{ℕ, ◌+◌, ◌≤◌, ◌<◌}
use mathlib.Core.Path.{◌≡◌, refl, sym, ap, ◌∙◌, subst}
use mathlib.Core.Bool.{Bool, true, false, ◌&&◌, true≢false}
use mathlib.Core.Logic.{◌≢◌, ◌⊎◌, inl, inr, ⊎_elim}
use mathlib.Core.List.{List, [], ◌∷◌, ◌++◌, append_assoc, append-nil, nil≢cons}
use mathlib.Core.Option.{some}
use native.Mathlib.Omega.{arith}
use lib.Dec.{eqb, ltb}
use borrow.Author.Tests.{eq-eqb, ne_eqb, eqb-true, ltb-true, lt-leb}
use Rattle.lists.specs.Lists.{someone, occurs, without, ahead}
use Rattle.std.proofs.lemmas.Bool.{cases_Bool, and_parts, cases_eq}
use Rattle.lists.proofs.Laws.{first_of, put_same, one_same, one_other, occurs-append, occurs-without_other, without-append, ahead_rear, ahead-without}
use Rattle.plain.specs.Sizes.{classes, mailboxes, semaphores, highest_count, at_mailbox, at_semaphore}
use Rattle.plain.specs.State.{Message, Procs, State, places, unused}
use Rattle.plain.specs.Mailboxes.{refuses, relieved, buffers_for}
use Rattle.plain.specs.Calls.{Call, create, stop, end, yield, class, tick, mailbox, send, receive, read, release, signal, wait, is_empty, bytes_in, perform, refusals, step}
use Rattle.plain.specs.Sound.{Sound, In}
use Rattle.plain_laws.specs.History.{as_one, is_refusal, Ready, Moment, moment, moments}
use Rattle.plain_laws.specs.Waiters.{is_for, serves, served, turned_away, Over, readied, stopped, later, unstopped, remaining, FirstInLine, InLine, Enough, Orderly, handover, handovers, Gets, InOrder, moments_of, NobodyBarges}
use Rattle.plain_laws.proofs.Calls.{accepted}
use Rattle.plain_laws.proofs.Lines.{Line, stays, goes, loses, grows, lined}
use Rattle.plain_laws.proofs.Mailboxes.{not_11}
use Rattle.plain_laws.proofs.Refusals.{accepted_passed}
use Rattle.plain_laws.proofs.Seats.{head_in, queued}
use Rattle.plain_laws.proofs.Sound.{step_sound}

-- ---- those of a list who are not stopped

not_unused : (r : Procs) (x : ℕ) → 1 ≤ places r x → unused r x ≡ false
not_unused r x h = ne_eqb (places r x) 0 (omega arith)

-- all but w
all_but : (r : Procs) (w : ℕ) (l : List ℕ) → places r w ≡ 0 → ((x : ℕ) → x ≢ w → 1 ≤ occurs x l → 1 ≤ places r x) → unstopped r l ≡ without w l
all_but r w [] z h = refl
all_but r w (x ∷ l) z h =
    let rest = all_but r w l z (λ y d o. h y d (omega arith)) in
    ⊎_elim
    (λ (e : x ≡ w). rw (eq-eqb x w e, eq-eqb (places r x) 0 (ap (places r) e ∙ z)) rest)
    (λ (d : x ≢ w). rw (ne_eqb x w d, not_unused r x (h x d (omega (arith, one_same x)))) (ap (λ (y : List ℕ). x ∷ y) rest))
    (cases_eq x w)

all : (r : Procs) (l : List ℕ) → ((x : ℕ) → 1 ≤ occurs x l → 1 ≤ places r x) → unstopped r l ≡ l
all r [] h = refl
all r (x ∷ l) h = rw (not_unused r x (h x (omega (arith, one_same x)))) (ap (λ (y : List ℕ). x ∷ y) (all r l (λ y o. h y (omega arith))))

-- ---- one call

module _ (s : State) (k : Sound s) (q : ℕ) (c : Call) where
  abbrev t : Moment
  t = moment s c (step s c)

  -- who stands in a queue after it is not stopped by it
  stands : (x : ℕ) → In t.to q x → 1 ≤ places t.to x
  stands x o = queued (step s c).next.settings.slice t.to (step_sound s k c).seated q x o

  -- l are the first, and all of them are still there
  still : (l others : List ℕ) → t.to.queue q ≡ l ++ others → unstopped t.to l ≡ l
  still l others e = all t.to l (λ x o. stands x (omega (arith, ap (occurs x) e, occurs-append x l others)))

  unserved : (l others : List ℕ) → serves q t ≡ false → t.to.queue q ≡ l ++ others → FirstInLine q l t
  unserved l others z e = rw z (others, e ∙ ap (λ (a : List ℕ). a ++ others) (sym (still l others e)))

  first_goes : (w : ℕ) (r l others : List ℕ) → serves q t ≡ true → w ∷ r ≡ l ++ others → t.to.queue q ≡ r → FirstInLine q l t
  first_goes w r [] others v i e = rw v (r, e)
  first_goes w r (y ∷ l) others v i e =
      let rest : r ≡ l ++ others = cc in
      rw v (others, (e ∙ rest) ∙ ap (λ (a : List ℕ). a ++ others) (sym (still l others (e ∙ rest))))

  one_goes : (w : ℕ) (l others : List ℕ) → serves q t ≡ false → places t.to w ≡ 0 → t.to.queue q ≡ without w (l ++ others) → FirstInLine q l t
  one_goes w l others v z e =
      let there : t.to.queue q ≡ without w l ++ without w others = e ∙ without-append w l others in
      let are : unstopped t.to l ≡ without w l = all_but t.to w l z (λ x d o. stands x (omega (arith, ap (occurs x) there, occurs-append x (without w l) (without w others), occurs-without_other x w l d))) in
      rw v (without w others, there ∙ ap (λ (a : List ℕ). a ++ without w others) (sym are))

  -- those who waited first stay first
  stay : classes ≤ q → (l others : List ℕ) → s.procs.queue q ≡ l ++ others → FirstInLine q l t
  stay h l others e = go (lined s k q h c)
    where
      empty : (l : List ℕ) → l ++ others ≡ [] → serves q t ≡ true → t.to.queue q ≡ l ++ others → FirstInLine q l t
      empty [] z v i = rw v (others, i)
      empty (x ∷ l) z v i = absurd (nil≢cons (sym z))

      go : Line q t → FirstInLine q l t
      go (stays v i) = ⊎_elim (λ (y : serves q t ≡ true). empty l (sym e ∙ v y) y (i ∙ e)) (λ y. unserved l others y (i ∙ e)) (cases_Bool (serves q t))
      go (goes w r v f i b) = first_goes w r l others v (sym f ∙ e) i
      go (loses w v z i) = one_goes w l others v z (i ∙ ap (without w) e)
      go (grows w v i) = unserved l (others ++ (w ∷ [])) v (i ∙ (ap (λ (a : List ℕ). a ++ (w ∷ [])) e ∙ append_assoc l others (w ∷ [])))

  -- p, who waits, is served, or stopped, or goes on waiting, with one fewer ahead where the first is served
  abbrev Waits : ℕ → Type 0
  Waits p = In t.to q p × (ahead p (t.to.queue q) + as_one (serves q t) ≤ ahead p (s.procs.queue q))

  abbrev Fares : ℕ → Type 0
  Fares p = ((serves q t ≡ true) × ((t.to.running ≡ p) ⊎ Ready t.to p)) ⊎ ((unused t.to p ≡ true) ⊎ Waits p)

  fares : (p : ℕ) → classes ≤ q → In s.procs q p → Fares p
  fares p h o = go (lined s k q h c)
    where
      go : Line q t → Fares p
      go (stays v e) = ⊎_elim
          (λ (y : serves q t ≡ true). absurd (omega (arith, ap (occurs p) (v y))))
          (λ (y : serves q t ≡ false). inr (inr (rw (y, e) (o, omega arith))))
          (cases_Bool (serves q t))
      go (goes w l v f e b) = ⊎_elim
          (λ (i : w ≡ p). inl (v, subst (λ (x : ℕ). (t.to.running ≡ x) ⊎ Ready t.to x) i b))
          (λ (i : w ≢ p). inr (inr (rw (v, e, f, ne_eqb w p i) (omega (arith, ap (occurs p) f, one_other w p i), omega arith))))
          (cases_eq w p)
      go (loses w v z e) = ⊎_elim
          (λ (i : w ≡ p). inr (inl (eq-eqb (places t.to p) 0 (ap (places t.to) (sym i) ∙ z))))
          (λ (i : w ≢ p). inr (inr (rw (v, e) (omega (arith, occurs-without_other p w (s.procs.queue q) (λ b. i (sym b))), omega (arith, ahead-without p w (s.procs.queue q) i)))))
          (cases_eq w p)
      go (grows w v e) = inr (inr (rw (v, e) (omega (arith, occurs-append p (s.procs.queue q) (w ∷ [])), omega (arith, ahead_rear p (s.procs.queue q) (w ∷ []) o))))

-- ---- any calls

module _ (q : ℕ) (h : classes ≤ q) where
  in_line : (s : State) (l others : List ℕ) (cs : List Call) → Sound s → s.procs.queue q ≡ l ++ others → InLine q l (moments s cs)
  unfolding moments
  in_line s l others [] k e = tt
  in_line s l others (c ∷ cs) k e =
      let a = stay s k q c h l others e in
      (a, in_line (step s c).next (remaining q l (moment s c (step s c))) a.0 cs (step_sound s k c) a.1)

  -- with n ahead, p waits for n + 1 at most
  in_time : (p : ℕ) (s : State) (cs : List Call) → Sound s → In s.procs q p → Enough q s.procs p (moments s cs) → Over q p (moments s cs)
  unfolding served moments
  in_time p s [] k o b = absurd (omega arith)
  in_time p s (c ∷ cs) k o b = ⊎_elim
      (λ a. readied a.0 a.1)
      (λ a. ⊎_elim (λ u. stopped u) (λ (w : Waits s k q c p). later w.0 (in_time p (step s c).next cs (step_sound s k c) w.0 (omega (arith, w.1)))) a)
      (fares s k q c p h o)

-- ---- what is full

-- which calls are for a queue
what_for : (q : ℕ) (c : Call) → is_for q c ≡ true → ((m : ℕ) × (b : List ℕ) × (c ≡ send m b) × (m < mailboxes) × (at_mailbox m ≡ q)) ⊎ ((i : ℕ) × (c ≡ signal i) × (at_semaphore i ≡ q))
what_for q (create c) e = absurd (true≢false (sym e))
what_for q (stop n) e = absurd (true≢false (sym e))
what_for q end e = absurd (true≢false (sym e))
what_for q yield e = absurd (true≢false (sym e))
what_for q (class c) e = absurd (true≢false (sym e))
what_for q tick e = absurd (true≢false (sym e))
what_for q (mailbox m c d) e = absurd (true≢false (sym e))
what_for q (send m b) e = let both = and_parts (ltb m mailboxes) (eqb (at_mailbox m) q) e in inl (m, b, refl, ltb-true m mailboxes both.0, eqb-true (at_mailbox m) q both.1)
what_for q (receive m) e = absurd (true≢false (sym e))
what_for q (read room) e = absurd (true≢false (sym e))
what_for q release e = absurd (true≢false (sym e))
what_for q (signal i) e = inr (i, refl, eqb-true (at_semaphore i) q e)
what_for q (wait i) e = absurd (true≢false (sym e))

module _ (s : State) (k : Sound s) where
  -- where someone waits, there is one who does
  waiter : (q : ℕ) → someone (s.procs.queue q) ≡ true → (w : ℕ) × In s.procs q w
  waiter q e = let f = first_of (s.procs.queue q) e in (f.0, head_in s.settings.slice s.procs k.seated q f.0 f.1 f.2)

  -- a semaphore at which someone waits counts 0
  signal_taken : (i : ℕ) → i < semaphores → someone (s.procs.queue (at_semaphore i)) ≡ true → (step s (signal i)).answer.code ≢ 13
  unfolding step refusals perform highest_count
  signal_taken i h e = let w = waiter (at_semaphore i) e in rw (lt-leb semaphores i h, k.waits.counts i w.0 h w.1) (omega arith)

  -- a mailbox at which someone waits holds nothing
  send_taken : (m : ℕ) (b : List ℕ) → m < mailboxes → someone (s.procs.queue (at_mailbox m)) ≡ true → (step s (send m b)).answer.code ≢ 11
  unfolding refuses
  send_taken m b h e =
      let w = waiter (at_mailbox m) e in
      not_11 s m b (rw (k.waits.boxes m w.0 h w.1, lt-leb (s.settings.capacity m) 0 (k.settings.habits.some m)) refl)

-- no call that is for queue q is refused with this code while somebody waits there
abbrev Never : ℕ → ℕ → Type 0
Never code q = (s : State) (c : Call) → Sound s → someone (s.procs.queue q) ≡ true → is_for q c ≡ true → (step s c).answer.code ≢ code

never_full : (q code : ℕ) → Never code q → (s : State) (cs : List Call) → Sound s → turned_away code q (moments s cs) ≡ 0
unfolding turned_away moments
never_full q code taken s [] k = refl
never_full q code taken s (c ∷ cs) k =
    let waiting : Bool = someone (s.procs.queue q) in
    let off : (waiting && (is_for q c && eqb (step s c).answer.code code)) ≡ false = ⊎_elim
    (λ (e : (waiting && (is_for q c && eqb (step s c).answer.code code)) ≡ true).
    let a = and_parts waiting (is_for q c && eqb (step s c).answer.code code) e in
    let b = and_parts (is_for q c) (eqb (step s c).answer.code code) a.1 in
    absurd (taken s c k a.0 b.0 (eqb-true (step s c).answer.code code b.1)))
    (λ e. e) (cases_Bool (waiting && (is_for q c && eqb (step s c).answer.code code))) in
    rw off (omega (arith, never_full q code taken (step s c).next cs (step_sound s k c)))

never_13 : (i : ℕ) → i < semaphores → Never 13 (at_semaphore i)
never_13 i h s c k w e = ⊎_elim
    (λ a. absurd (omega (arith, a.3, a.4)))
    (λ a. subst (λ (c : Call). (step s c).answer.code ≢ 13) (sym a.1) (subst (λ (j : ℕ). (step s (signal j)).answer.code ≢ 13) (omega (arith, a.2)) (signal_taken s k i h w)))
    (what_for (at_semaphore i) c e)

never_11 : (m : ℕ) → m < mailboxes → Never 11 (at_mailbox m)
never_11 m h s c k w e = ⊎_elim
    (λ a. subst (λ (c : Call). (step s c).answer.code ≢ 11) (sym a.2) (subst (λ (j : ℕ). (step s (send j a.1)).answer.code ≢ 11) (omega (arith, a.4)) (send_taken s k m a.1 h w)))
    (λ a. absurd (omega (arith, a.2)))
    (what_for (at_mailbox m) c e)

-- ---- messages

-- the first who waits at m has what is sent
handed : (s : State) (m w : ℕ) (l b : List ℕ) → s.procs.queue (at_mailbox m) ≡ w ∷ l → is_refusal (step s (send m b)).answer ≡ false
    → (is_empty ((step s (send m b)).next.hand w) ≡ false) × (bytes_in ((step s (send m b)).next.hand w) ≡ b)
unfolding step perform
handed s m w l b e z =
    let x : Message = record { lies = buffers_for m b s; bytes = b } in
    rw (accepted (refusals s (send m b)) s (perform s (send m b)) (accepted_passed s (send m b) z), e, put_same (relieved m s).hand w (some x)) (refl, refl)

module _ (m : ℕ) (h : m < mailboxes) where
  gets : (s : State) (l others : List ℕ) (c : Call) → s.procs.queue (at_mailbox m) ≡ l ++ others → Gets m l (handover s c)
  gets s [] others c e = tt
  gets s (w ∷ l) others c e = λ b i.
      subst (λ (c : Call). is_refusal (step s c).answer ≡ false → (is_empty ((step s c).next.hand w) ≡ false) × (bytes_in ((step s c).next.hand w) ≡ b)) (sym i) (handed s m w (l ++ others) b e)

  in_order_lem : (s : State) (l others : List ℕ) (cs : List Call) → Sound s → s.procs.queue (at_mailbox m) ≡ l ++ others → InOrder m l (handovers s cs)
  unfolding handovers
  in_order_lem s l others [] k e = tt
  in_order_lem s l others (c ∷ cs) k e =
      let a = stay s k (at_mailbox m) c (omega arith) l others e in
      (gets s l others c e, in_order_lem (step s c).next (remaining (at_mailbox m) l (moment s c (step s c))) a.0 cs (step_sound s k c) a.1)

-- ---- what waiters were promised

pub moments_are : (s : State) (cs : List Call) → moments_of (handovers s cs) ≡ moments s cs
unfolding handovers moments
moments_are s [] = refl
moments_are s (c ∷ cs) = ap (λ (ms : List Moment). moment s c (step s c) ∷ ms) (moments_are (step s c).next cs)

orderly : (q code : ℕ) → classes ≤ q → Never code q → (s : State) (cs : List Call) → Sound s → Orderly q code s.procs (moments_of (handovers s cs))
orderly q code h taken s cs k = rw (moments_are s cs) (record {
  in_line = in_line q h s (s.procs.queue q) [] cs k (sym (append-nil (s.procs.queue q)));
  in_time = λ p. in_time q h p s cs k;
  never_full = never_full q code taken s cs k;
})

pub nobody_barges : (s : State) (cs : List Call) → Sound s → NobodyBarges s.procs (handovers s cs)
nobody_barges s cs k = record {
  at_semaphores = λ i h. orderly (at_semaphore i) 13 (omega arith) (never_13 i h) s cs k;
  at_mailboxes = λ m h. orderly (at_mailbox m) 11 (omega arith) (never_11 m h) s cs k;
  messages = λ m h. in_order_lem m h s (s.procs.queue (at_mailbox m)) [] cs k (sym (append-nil (s.procs.queue (at_mailbox m))));
}
