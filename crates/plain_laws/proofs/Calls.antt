-- The moves of each accepted call, and that settling then says who runs.
-- Assumes nothing.
use Prim.Native.Nat.{ℕ, zero, suc, ◌-◌, ◌≤◌, ◌<◌}
use mathlib.Core.Path.{◌≡◌, refl, sym, ap, ◌∙◌, subst, fun_ext}
use mathlib.Core.Bool.{true, false, not, ◌||◌}
use mathlib.Core.Logic.{◌≢◌, ⊎_elim}
use mathlib.Core.List.{List, [], ◌∷◌, ◌++◌}
use native.Mathlib.Omega.{arith}
use lib.Dec.{ltb, leb, eqb}
use borrow.Author.Tests.{ltb-true, ltb-false, leb-false, eqb-true, eqb-false, eq-eqb, ne_eqb, not-false}
use Rattle.lists.specs.Lists.{put, occurs, without, lowest}
use Rattle.std.proofs.lemmas.Bool.{cases_Bool, or_parts, cases_eq}
use Rattle.lists.proofs.Laws.{put_same, put_other, put_cases, one_same, one_other, without_absent, taken_out, lowest-passes}
use Rattle.plain.specs.Sizes.{processes, classes, queues}
use Rattle.plain.specs.State.{Procs, State, level, run, lines, line, rank, left, places, unused, free_process}
use Rattle.plain.specs.Names.{bare, names}
use Rattle.plain.specs.Runs.{choose, stand_down, join, pick, make_ready, go_to, remove, halt}
use Rattle.plain.specs.Calls.{Outcome, Refusal, no_process, judge, yielded, regraded, spent, ticked}
use Rattle.plain.specs.Sound.{Seated, Highest, Sound, In}
use Rattle.plain_laws.specs.Moves.{rid, leave, to_rear, settle, Away, stay, spend, again, rear, pause}
use Rattle.plain_laws.specs.Moves
use Rattle.plain_laws.specs.History.{Passed}
use Rattle.plain_laws.proofs.Places.{runs_once}
use Rattle.plain_laws.proofs.Seats.{member, head_in, queued, runner_away, runner_range, one_queue, queue_once, queued_rests, nowhere}
use Rattle.plain_laws.proofs.Settle.{choose_is, down_idle, down_front, settle_still}
use Rattle.plain_laws.proofs.Names.{named}
use Rattle.plain_laws.proofs.Frames.{slice_some, Nowhere, Nobody, rear_framed, class_framed, gone_framed, same_framed, only, Shifted, shift}

-- what holds of the state if the call is refused, and of the call's own result if it is not
pub judged : (P : State → Type 0) (rs : List Refusal) (s : State) (o : Outcome) → P s → (Passed rs → P o.next) → P (judge rs s o).next
judged P [] s o a b = b tt
judged P (r ∷ rs) s o a b = ⊎_elim (λ e. rw e a) (λ e. rw e (judged P rs s o a (λ p. b (e, p)))) (cases_Bool r.holds)

-- where no refusal holds the call does what it does
pub accepted : (rs : List Refusal) (s : State) (o : Outcome) → Passed rs → judge rs s o ≡ o
accepted [] s o p = refl
accepted (r ∷ rs) s o p = rw p.0 (accepted rs s o p.1)

-- ---- the moves in the calls' words

put_own : (f : ℕ → ℕ) (i : ℕ) → put f i (f i) ≡ f
put_own f i = fun_ext (λ j. put_cases (λ (a : ℕ). a ≡ f j) f i (f i) j (λ e. ap f (sym e)) (λ e. refl))

-- p leaves for the rear of q, where f are the queues without it
rear_from : (q p c t : ℕ) (s : Procs) (f : ℕ → List ℕ) → ◌≡◌ {A = ℕ → List ℕ} (λ i. without p (s.queue i)) f
    → to_rear q p c t s ≡ left p t (line q (f q ++ (p ∷ [])) (rank p c (lines f (run (rid s.running p) s))))
unfolding to_rear leave
rear_from q p c t s f e = ap (λ (g : ℕ → List ℕ). left p t (line q (g q ++ (p ∷ [])) (rank p c (lines g (run (rid s.running p) s))))) e

absent : (p : ℕ) (s : Procs) → ((q : ℕ) → occurs p (s.queue q) ≡ 0) → ◌≡◌ {A = ℕ → List ℕ} (λ i. without p (s.queue i)) s.queue
absent p s h = fun_ext (λ i. without_absent p (s.queue i) (h i))

-- the running process joins the rear of queue q as one of class c; choose
pub go_to_settles : (n q c : ℕ) (s : Procs) → ((i : ℕ) → occurs s.running (s.queue i) ≡ 0) → go_to n q (rank s.running c s) ≡ settle (to_rear q s.running c n s)
unfolding go_to settle join
go_to_settles n q c s h =
    rw (rear_from q s.running c n s s.queue (absent s.running s h), eq-eqb s.running s.running refl)
    (ap choose (sym (down_idle (run 0 (left s.running n (line q (s.queue q ++ (s.running ∷ [])) (rank s.running c s)))) refl)))

rank-own : (p : ℕ) (s : Procs) → rank p (s.class p) s ≡ s
rank-own p s = ap (λ (f : ℕ → ℕ). record { running = s.running; queue = s.queue; class = f; ticks = s.ticks }) (put_own s.class p)

-- p, alone in its class with nobody above it, is the one who is chosen
pick_chosen : (p c : ℕ) (s : Procs) → c < classes → s.queue c ≡ p ∷ [] → ((d : ℕ) → c < d → d < classes → s.queue d ≡ []) → ((q : ℕ) → q ≢ c → occurs p (s.queue q) ≡ 0)
    → pick p s ≡ choose s
pick_chosen p c s hc e hi away =
    let same : ◌≡◌ {A = ℕ → List ℕ} (λ q. without p (s.queue q)) (put s.queue c []) = taken_out p c s.queue [] [] e refl refl away in
    ap (λ (f : ℕ → List ℕ). run p (lines f s)) same ∙ sym (choose_is s c p [] hc e hi)

-- "p is then chosen": to make p ready, who stands nowhere, is to let it join its class and settle
module _ (n p : ℕ) (s : Procs) (cls : (x : ℕ) → level s x < classes) (hi : Highest s) (away : (q : ℕ) → occurs p (s.queue q) ≡ 0) (rests : s.running ≢ p) where
  abbrev c : ℕ
  c = level s p

  abbrev joined : Procs
  joined = left p n (line c (s.queue c ++ (p ∷ [])) s)

  alone : s.queue c ≡ [] → joined.queue c ≡ p ∷ []
  alone e = put_same s.queue c (s.queue c ++ (p ∷ [])) ∙ ap (λ (l : List ℕ). l ++ (p ∷ [])) e

  elsewhere : (q : ℕ) → q ≢ c → joined.queue q ≡ s.queue q
  elsewhere q d = put_other s.queue c (s.queue c ++ (p ∷ [])) q d

  when_idle : s.running ≡ 0 → pick p (stand_down joined) ≡ choose (stand_down joined)
  when_idle z =
      let none : (d : ℕ) → d < classes → s.queue d ≡ [] = λ d h. hi d h (λ b. absurd (b z)) in
      rw (down_idle joined z) (pick_chosen p c joined (cls p) (alone (none c (cls p))) (λ d b h. elsewhere d (omega arith) ∙ none d h) (λ q d. ap (occurs p) (elsewhere q d) ∙ away q))

  when_above : s.running ≢ 0 → level s s.running < c → pick p (stand_down joined) ≡ choose (stand_down joined)
  when_above z up =
      let r : ℕ = s.running in
      let e : ℕ = level s r in
      let l : List ℕ = r ∷ joined.queue e in
      let down : Procs = run 0 (line e l joined) in
      let none : (d : ℕ) → c < suc d → d < classes → s.queue d ≡ [] = λ d b h. hi d h (λ y. omega arith) in
      let same : (q : ℕ) → q ≢ e → down.queue q ≡ joined.queue q = λ q d. put_other joined.queue e l q d in
      rw (down_front joined z) (pick_chosen p c down (cls p)
      (same c (omega arith) ∙ alone (none c (omega arith) (cls p)))
      (λ d b h. same d (omega arith) ∙ (elsewhere d (omega arith) ∙ none d (omega arith) h))
      (λ q d. put_cases (λ (a : List ℕ). occurs p a ≡ 0) joined.queue e l q
      (λ b. omega (arith, one_other r p rests, ap (occurs p) (elsewhere e (omega arith)), away e))
      (λ b. ap (occurs p) (elsewhere q d) ∙ away q)))

  when_below : s.running ≢ 0 → c ≤ level s s.running → joined ≡ choose (stand_down joined)
  when_below z low = sym (unfold settle in settle_still joined cls (λ d h up. let b = up z in elsewhere d (omega arith) ∙ hi d h up))

  pub ready_settles : make_ready n p s ≡ settle (join n c p s)
  unfolding make_ready settle join
  ready_settles = ⊎_elim
      (λ (z : s.running ≡ 0). rw (eq-eqb s.running 0 z) (when_idle z))
      (λ (z : s.running ≢ 0). rw (ne_eqb s.running 0 z) (⊎_elim
      (λ (e : ltb (level s s.running) c ≡ true). rw e (when_above z (ltb-true (level s s.running) c e)))
      (λ (e : ltb (level s s.running) c ≡ false). rw e (when_below z (ltb-false (level s s.running) c e)))
      (cases_Bool (ltb (level s s.running) c))))
      (cases_eq s.running 0)

-- ---- each call's own move, in a sound state

module _ (n : ℕ) (s : Procs) (k : Seated n s) (hi : Highest s) where
  -- p, who stands nowhere, becomes a process of class c and is made ready
  pub create_settles : (p c : ℕ) → places s p ≡ 0 → c < classes → make_ready n p (rank p c s) ≡ settle (to_rear c p c n s)
  unfolding join
  create_settles p c free hc =
      let rests : s.running ≢ p = λ e. omega (arith, runs_once s, ap (places s) e) in
      let away : (q : ℕ) → occurs p (s.queue q) ≡ 0 = λ q. nowhere n s k p q free in
      ready_settles n p (rank p c s) (λ x. put_cases (λ (a : ℕ). a < classes) s.class p c x (λ e. hc) (λ d. k.in_class x))
      (λ d h up. hi d h (λ z. subst (λ (a : ℕ). a < d) (put_other s.class p c s.running rests) (up z))) away rests
      ∙ ap settle (rw (put_same s.class p c, rear_from c p c n s s.queue (absent p s away), ne_eqb s.running p rests) refl)

  -- w, the first of those who wait at queue q, is made ready
  pub wake_settles : (q w : ℕ) (l : List ℕ) → classes ≤ q → s.queue q ≡ w ∷ l → make_ready n w (line q l s) ≡ settle (to_rear (level s w) w (s.class w) n s)
  unfolding join
  wake_settles q w l hq e =
      let here : In s q w = head_in n s k q w l e in
      let rests : s.running ≢ w = queued_rests n s k q w here in
      let once : occurs w l ≡ 0 = omega (arith, ap (occurs w) e, one_same w, queue_once n s k q w here) in
      let other : (i : ℕ) → i ≢ q → occurs w (s.queue i) ≡ 0 = λ i d. one_queue n s k q i w here d in
      let without-w : ◌≡◌ {A = ℕ → List ℕ} (λ i. without w (s.queue i)) (put s.queue q l) = taken_out w q s.queue [] l e refl once other in
      ready_settles n w (line q l s) k.in_class (λ d h up. put_other s.queue q l d (omega arith) ∙ hi d h up)
      (λ i. put_cases (λ (a : List ℕ). occurs w a ≡ 0) s.queue q l i (λ d. once) (λ d. other i d)) rests
      ∙ ap settle (rw (rear_from (level s w) w (s.class w) n s (put s.queue q l) without-w, ne_eqb s.running w rests, put_own s.class w) refl)

  pub halt_settles : (p : ℕ) → halt p s ≡ settle (leave p 0 0 s)
  unfolding halt remove leave settle
  halt_settles p = ⊎_elim
      (λ (e : s.running ≡ p). rw (eq-eqb s.running p e) (ap choose (sym (down_idle (left p 0 (rank p 0 (lines (λ q. without p (s.queue q)) (run 0 s)))) refl))))
      (λ (d : s.running ≢ p). rw (ne_eqb s.running p d) (sym (settle_still (remove p s)
      (λ x. put_cases (λ (a : ℕ). a < classes) s.class p 0 x (λ e. omega arith) (λ b. k.in_class x))
      (λ i h up. ap (without p) (hi i h (λ z. subst (λ (a : ℕ). a < i) (put_other s.class p 0 s.running d) (up z)))))))
      (cases_eq s.running p)

  -- the runner goes to the rear of queue q, its own class's or where it waits
  pub wait_settles : (q : ℕ) → go_to n q s ≡ settle (to_rear q s.running (s.class s.running) n s)
  wait_settles q = ap (go_to n q) (sym (rank-own s.running s)) ∙ go_to_settles n q (s.class s.running) s (runner_away n s k)

-- ---- each accepted call

-- the number in a name that no call refuses
pub somebody : (n : ℕ) (s : State) → (no_process n s).holds ≡ false → (1 ≤ bare n) × (bare n < processes) × (1 ≤ places s.procs (bare n))
somebody n s e =
    let p : ℕ = bare n in
    let a = or_parts (eqb p 0) (not (names s.births n) || unused s.procs p) e in
    let b = or_parts (not (names s.births n)) (unused s.procs p) a.1 in
    let zero? : p ≢ 0 = eqb-false p 0 a.0 in
    let place? : places s.procs p ≢ 0 = eqb-false (places s.procs p) 0 b.1 in
    (omega arith, (named s.births n (not-false (names s.births n) b.0)).0, omega arith)

-- the number that the next process gets
pub next_process : (s : Procs) → eqb (free_process s) processes ≡ false → (1 ≤ free_process s) × (free_process s < processes) × (places s (free_process s) ≡ 0)
unfolding free_process
next_process s e =
    let l = lowest-passes 1 (processes - 1) (unused s) (eqb-false (lowest 1 (processes - 1) (unused s)) processes e) in
    (l.0, l.1, eqb-true (places s (lowest 1 (processes - 1) (unused s))) 0 l.2)

module _ (s : State) (k : Sound s) where
  abbrev n : ℕ
  n = s.settings.slice

  -- nobody newly waits, nobody is newly unused, and these are newly used
  abbrev Brings : (ℕ → Type 0) → ℕ → Procs → Type 0
  Brings Begins d r' = Shifted n s.procs d Nowhere Nobody Begins r'

  abbrev Calm : ℕ → Procs → Type 0
  Calm d r' = Brings Nobody d r'

  -- who runs is used
  runner-stands : places s.procs s.procs.running ≡ 0 → ⊥
  runner-stands z = omega (arith, runs_once s.procs)

  still : settle s.procs ≡ s.procs
  still = settle_still s.procs k.seated.in_class k.highest

  -- nothing moves
  pub stayed : Calm 0 s.procs
  stayed = shift n s.procs 0 Nowhere Nobody Nobody s.procs s.procs (slice_some s k) k.seated (only stay) (same_framed s.procs s.procs.ticks) (sym still)

  -- p goes to the rear of class c
  readied : (Begins : ℕ → Type 0) (p c : ℕ) (r' : Procs) → 1 ≤ p → p < processes → (places s.procs p ≡ 0 → Begins p) → Away s.procs p → c < classes → r' ≡ settle (to_rear c p c n s.procs) → Brings Begins 0 r'
  readied Begins p c r' h h' new away hc e = shift n s.procs 0 Nowhere Nobody Begins r' (to_rear c p c n s.procs) (slice_some s k) k.seated (only (rear p c h h' away hc)) (class_framed Begins c p c n s.procs hc h new) e

  pub made : (c : ℕ) → leb classes c ≡ false → eqb (free_process s.procs) processes ≡ false → Brings (λ x. x ≡ free_process s.procs) 0 (make_ready n (free_process s.procs) (rank (free_process s.procs) c s.procs))
  made c e e' =
      let y = next_process s.procs e' in
      let p : ℕ = free_process s.procs in
      readied _ p c (make_ready n p (rank p c s.procs)) y.0 y.1 (λ z. refl) (λ d b. nowhere n s.procs k.seated p d y.2) (leb-false classes c e)
      (create_settles n s.procs k.seated k.highest p c y.2 (leb-false classes c e))

  pub roused : (q w : ℕ) (l : List ℕ) → classes ≤ q → s.procs.queue q ≡ w ∷ l → Calm 0 (make_ready n w (line q l s.procs))
  roused q w l hq e =
      let here : In s.procs q w = head_in n s.procs k.seated q w l e in
      let who = member n s.procs k.seated q w here in
      readied Nobody w (s.procs.class w) (make_ready n w (line q l s.procs)) who.0 who.1 (λ z. omega (arith, queued n s.procs k.seated q w here)) (λ d b. one_queue n s.procs k.seated q d w here (omega arith)) (k.seated.in_class w)
      (wake_settles n s.procs k.seated k.highest q w l hq e)

  graded : (c : ℕ) → s.procs.running ≢ 0 → c < classes → Calm 0 (go_to n c (rank s.procs.running c s.procs))
  graded c z hc =
      readied Nobody s.procs.running c (go_to n c (rank s.procs.running c s.procs)) (omega arith) (runner_range n s.procs k.seated) runner-stands (λ d b. runner_away n s.procs k.seated d) hc
      (go_to_settles n c c s.procs (runner_away n s.procs k.seated))

  pub yields : s.procs.running ≢ 0 → Calm 0 (yielded n s.procs)
  yields z = rw (rank-own s.procs.running s.procs) at (graded (s.procs.class s.procs.running) z (k.seated.in_class s.procs.running))

  pub grades : (c : ℕ) → s.procs.running ≢ 0 → c < classes → Calm 0 (regraded n c s.procs)
  grades c z hc = ⊎_elim (λ e. rw e stayed) (λ e. rw e (graded c z hc)) (cases_Bool (eqb c (s.procs.class s.procs.running)))

  pub halted : (p : ℕ) → 1 ≤ p → Shifted n s.procs 0 Nowhere (λ x. x ≡ p) Nobody (halt p s.procs)
  halted p h =
      shift n s.procs 0 Nowhere (λ x. x ≡ p) Nobody (halt p s.procs) (leave p 0 0 s.procs) (slice_some s k) k.seated (only (Moves.halt p h)) (gone_framed p s.procs h)
      (halt_settles n s.procs k.seated k.highest p)

  pub paused : (q : ℕ) → s.procs.running ≢ 0 → classes ≤ q → q < queues → Shifted n s.procs 0 (λ i x. (i ≡ q) × (x ≡ s.procs.running)) Nobody Nobody (go_to n q s.procs)
  paused q z h₅ hq =
      let c : ℕ = s.procs.class s.procs.running in
      shift n s.procs 0 (λ i x. (i ≡ q) × (x ≡ s.procs.running)) Nobody Nobody (go_to n q s.procs) (to_rear q s.procs.running c n s.procs) (slice_some s k) k.seated (only (pause q z h₅ hq))
      (rear_framed Nobody q s.procs.running c n s.procs hq (omega arith) runner-stands) (wait_settles n s.procs k.seated k.highest q)

  spends : (t : ℕ) → s.procs.running ≢ 0 → s.procs.ticks s.procs.running - 1 ≡ t → Calm 1 (spent n t s.procs)
  spends zero z e =
      let c : ℕ = s.procs.class s.procs.running in
      shift n s.procs 1 Nowhere Nobody Nobody (yielded n s.procs) (to_rear c s.procs.running c n s.procs) (slice_some s k) k.seated (only (again z))
      (class_framed Nobody c s.procs.running c n s.procs (k.seated.in_class s.procs.running) (omega arith) runner-stands) (wait_settles n s.procs k.seated k.highest c)
  spends (suc t) z e =
      let m : Procs = left s.procs.running (suc t) s.procs in
      shift n s.procs 1 Nowhere Nobody Nobody m m (slice_some s k) k.seated (only (spend t z (omega arith))) (same_framed s.procs m.ticks) (sym (settle_still m k.seated.in_class k.highest))

  pub ticks : Calm 1 (ticked n s.procs)
  ticks = ⊎_elim
      (λ (z : s.procs.running ≡ 0). rw (eq-eqb s.procs.running 0 z)
      (shift n s.procs 1 Nowhere Nobody Nobody s.procs s.procs (slice_some s k) k.seated (only (Moves.idle z)) (same_framed s.procs s.procs.ticks) (sym still)))
      (λ (z : s.procs.running ≢ 0). rw (ne_eqb s.procs.running 0 z) (spends (s.procs.ticks s.procs.running - 1) z refl))
      (cases_eq s.procs.running 0)
