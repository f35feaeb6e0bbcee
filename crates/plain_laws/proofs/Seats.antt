-- Each move keeps everyone seated, and so does a chain of them, where a full slice has n ticks.
-- Assumes nothing.
use Prim.Native.Nat.{ℕ, suc, ◌≤◌, ◌<◌}
use mathlib.Core.Path.{◌≡◌, refl, sym, ap, ◌∙◌, subst}
use mathlib.Core.Logic.{◌≢◌, ⊎_elim}
use mathlib.Core.List.{List, ◌∷◌}
use native.Mathlib.Omega.{arith}
use Rattle.lists.specs.Lists.{occurs, without}
use Rattle.std.proofs.lemmas.Bool.{cases_eq}
use Rattle.lists.proofs.Laws.{le?, put_other, put_cases, one_same, occurs-without-same, occurs-without_other}
use Rattle.plain.specs.Sizes.{processes, classes, queues}
use Rattle.plain.specs.State.{Procs, level, places, left}
use Rattle.plain.specs.Sound.{Seated, In}
use Rattle.plain_laws.specs.Moves.{leave, to_rear, Move, stay, idle, spend, again, rear, pause, halt, Others, none, also, Chain}
use Rattle.plain_laws.proofs.Places.{spots-at, spots_two, runs_once, leave-gone, leave_kept, rear_placed, rear_kept, rear_other, rear_elsewhere, rear_only}

module _ (n : ℕ) (s : Procs) (k : Seated n s) where
  -- who stands in a queue stands in one of those there are, is no 0, and is a process
  pub queue_range : (q p : ℕ) → In s q p → q < queues
  queue_range q p o = ⊎_elim (λ h. absurd (omega (arith, ap (occurs p) (k.no_more_queues q h)))) (λ h. h) (le? queues q)

  pub queued : (q p : ℕ) → In s q p → 1 ≤ places s p
  queued q p o = omega (arith, spots-at s.running s.queue q p (queue_range q p o))

  pub member : (q p : ℕ) → In s q p → (1 ≤ p) × (p < processes)
  member q p o =
      let positive : p ≢ 0 = λ e. let z : occurs p (s.queue q) ≡ 0 = rw e (k.null_nowhere q) in omega arith in
      (omega arith, ⊎_elim (λ h. absurd (omega (arith, k.nobody_else p h, queued q p o))) (λ h. h) (le? processes p))

  pub head_in : (q p : ℕ) (l : List ℕ) → s.queue q ≡ p ∷ l → In s q p
  head_in q p l e = omega (arith, ap (occurs p) e, one_same p)

  -- the runner is a process, and stands nowhere else
  pub runner_range : s.running < processes
  runner_range = ⊎_elim (λ h. absurd (omega (arith, k.nobody_else s.running h, runs_once s))) (λ h. h) (le? processes s.running)

  pub runner_away : (q : ℕ) → occurs s.running (s.queue q) ≡ 0
  runner_away q = ⊎_elim
      (λ h. rw (k.no_more_queues q h) refl)
      (λ h. ⊎_elim (λ e. rw e (k.null_nowhere q))
      (λ (d : s.running ≢ 0). omega (arith, k.one_place s.running (omega arith), spots-at s.running s.queue q s.running h, one_same s.running))
      (cases_eq s.running 0))
      (le? queues q)

  -- who stands in one queue stands in no other
  pub one_queue : (q i p : ℕ) → In s q p → i ≢ q → occurs p (s.queue i) ≡ 0
  one_queue q i p o d = ⊎_elim
      (λ h. rw (k.no_more_queues i h) refl)
      (λ h. omega (arith, k.one_place p (member q p o).0, spots_two s.running s.queue q i p (queue_range q p o) h (λ e. d (sym e)), o))
      (le? queues i)

  pub queue_once : (q p : ℕ) → In s q p → occurs p (s.queue q) ≤ 1
  queue_once q p o = omega (arith, k.one_place p (member q p o).0, spots-at s.running s.queue q p (queue_range q p o))

  -- who stands in a queue does not run
  pub queued_rests : (q p : ℕ) → In s q p → s.running ≢ p
  queued_rests q p o e = let z : occurs p (s.queue q) ≡ 0 = subst (λ (x : ℕ). occurs x (s.queue q) ≡ 0) e (runner_away q) in omega arith

  -- p, in no place, stands in no queue
  pub nowhere : (p q : ℕ) → places s p ≡ 0 → occurs p (s.queue q) ≡ 0
  nowhere p q free = ⊎_elim (λ h. rw (k.no_more_queues q h) refl) (λ h. omega (arith, spots-at s.running s.queue q p h)) (le? queues q)

  -- p leaves its place for the rear of queue q, with class c and t ticks
  pub rear_seated : (q p c t : ℕ) → q < queues → 1 ≤ p → p < processes → c < classes → (q < classes → c ≡ q) → 1 ≤ t → t ≤ n → (classes ≤ q → t ≡ n) → Seated n (to_rear q p c t s)
  unfolding to_rear leave
  rear_seated q p c t hq hp hp' hc own t₁ tₙ rest =
      let m : Procs = to_rear q p c t s in
      let was : (i x : ℕ) → x ≢ p → In m i x → In s i x = λ i x d o. omega (arith, rear_other p c t s q i x d) in
      let here : (i x : ℕ) → x ≡ p → In m i x → i ≡ q = λ i x e o. rear_only p c t s q i (subst (λ (z : ℕ). In m i z) e o) in
      let one-there : (x : ℕ) → x ≡ p → places m x ≡ 1 = λ x e. subst (λ (z : ℕ). places m z ≡ 1) (sym e) (rear_placed p c t s q hq hp) in
      let kept : (x : ℕ) → 1 ≤ x → x ≢ p → places m x ≡ places s x = λ x h d. rear_kept p c t s q x hq h d in
      record {
        one_place = λ x h. ⊎_elim (λ e. omega (arith, one-there x e)) (λ d. omega (arith, kept x h d, k.one_place x h)) (cases_eq x p);
        own_class = λ i x h o. put_cases (λ (a : ℕ). a ≡ i) s.class p c x (λ e. let z = here i x e o in own (omega arith) ∙ sym z) (λ d. k.own_class i x h (was i x d o));
        null_nowhere = λ i. rear_other p c t s q i 0 (omega arith) ∙ k.null_nowhere i;
        nobody_else = λ x h. kept x (omega arith) (omega arith) ∙ k.nobody_else x h;
        no_more_queues = λ i h. rear_elsewhere p c t s q i (omega arith) ∙ ap (without p) (k.no_more_queues i h);
        in_class = λ x. put_cases (λ (a : ℕ). a < classes) s.class p c x (λ e. hc) (λ d. k.in_class x);
        ticks_left = λ x h o. put_cases (λ (a : ℕ). 1 ≤ a) s.ticks p t x (λ e. t₁) (λ d. k.ticks_left x h (omega (arith, kept x h d)));
        ticks_most = λ x. put_cases (λ (a : ℕ). a ≤ n) s.ticks p t x (λ e. tₙ) (λ d. k.ticks_most x);
        waiter_ticks = λ i x h o. put_cases (λ (a : ℕ). a ≡ n) s.ticks p t x (λ e. let z = here i x e o in rest (omega arith)) (λ d. k.waiter_ticks i x h (was i x d o));
        null_zeros = (put_other s.class p c 0 (omega arith) ∙ k.null_zeros.0, put_other s.ticks p t 0 (omega arith) ∙ k.null_zeros.1);
        unused_zeros = λ x z. ⊎_elim
            (λ e. absurd (omega (arith, one-there x e)))
            (λ (d : x ≢ p). let still : (s.class x ≡ 0) × (s.ticks x ≡ 0) = ⊎_elim (λ o. rw o k.null_zeros) (λ o. k.unused_zeros x (omega (arith, kept x (omega arith) d))) (cases_eq x 0) in
            (put_other s.class p c x d ∙ still.0, put_other s.ticks p t x d ∙ still.1))
            (cases_eq x p);
      }

  -- p leaves its place, and its block carries zeros
  pub gone-seated : (p : ℕ) → 1 ≤ p → Seated n (leave p 0 0 s)
  unfolding leave
  gone-seated p hp =
      let m : Procs = leave p 0 0 s in
      let other : (i x : ℕ) → In m i x → x ≢ p = λ i x o e. let z : occurs x (without p (s.queue i)) ≡ 0 = rw e (occurs-without-same p (s.queue i)) in omega arith in
      let was : (i x : ℕ) → In m i x → In s i x = λ i x o. omega (arith, occurs-without_other x p (s.queue i) (other i x o)) in
      let gone : (x : ℕ) → x ≡ p → places m x ≡ 0 = λ x e. subst (λ (z : ℕ). places m z ≡ 0) (sym e) (leave-gone p 0 0 s hp) in
      let kept : (x : ℕ) → 1 ≤ x → x ≢ p → places m x ≡ places s x = λ x h d. leave_kept p 0 0 s x h d in
      record {
        one_place = λ x h. ⊎_elim (λ e. omega (arith, gone x e)) (λ d. omega (arith, kept x h d, k.one_place x h)) (cases_eq x p);
        own_class = λ i x h o. put_other s.class p 0 x (other i x o) ∙ k.own_class i x h (was i x o);
        null_nowhere = λ i. occurs-without_other 0 p (s.queue i) (omega arith) ∙ k.null_nowhere i;
        nobody_else = λ x h. ⊎_elim (λ e. gone x e) (λ d. kept x (omega arith) d ∙ k.nobody_else x h) (cases_eq x p);
        no_more_queues = λ i h. ap (without p) (k.no_more_queues i h);
        in_class = λ x. put_cases (λ (a : ℕ). a < classes) s.class p 0 x (λ e. omega arith) (λ d. k.in_class x);
        ticks_left = λ x h o. ⊎_elim (λ e. absurd (omega (arith, gone x e)))
            (λ (d : x ≢ p). subst (λ (a : ℕ). 1 ≤ a) (sym (put_other s.ticks p 0 x d)) (k.ticks_left x h (omega (arith, kept x h d)))) (cases_eq x p);
        ticks_most = λ x. put_cases (λ (a : ℕ). a ≤ n) s.ticks p 0 x (λ e. omega arith) (λ d. k.ticks_most x);
        waiter_ticks = λ i x h o. put_other s.ticks p 0 x (other i x o) ∙ k.waiter_ticks i x h (was i x o);
        null_zeros = (put_other s.class p 0 0 (omega arith) ∙ k.null_zeros.0, put_other s.ticks p 0 0 (omega arith) ∙ k.null_zeros.1);
        unused_zeros = λ x z.
            let still : x ≢ p → (s.class x ≡ 0) × (s.ticks x ≡ 0) = λ d. ⊎_elim (λ o. rw o k.null_zeros) (λ o. k.unused_zeros x (omega (arith, kept x (omega arith) d))) (cases_eq x 0) in
            (put_cases (λ (a : ℕ). a ≡ 0) s.class p 0 x (λ e. refl) (λ d. (still d).0), put_cases (λ (a : ℕ). a ≡ 0) s.ticks p 0 x (λ e. refl) (λ d. (still d).1));
      }

  -- the runner has t ticks left
  pub left-seated : (t : ℕ) → s.running ≢ 0 → 1 ≤ t → t ≤ n → Seated n (left s.running t s)
  left-seated t h t₁ tₙ = record {
    one_place = k.one_place;
    own_class = k.own_class;
    null_nowhere = k.null_nowhere;
    nobody_else = k.nobody_else;
    no_more_queues = k.no_more_queues;
    in_class = k.in_class;
    ticks_left = λ x b o. put_cases (λ (a : ℕ). 1 ≤ a) s.ticks s.running t x (λ e. t₁) (λ d. k.ticks_left x b o);
    ticks_most = λ x. put_cases (λ (a : ℕ). a ≤ n) s.ticks s.running t x (λ e. tₙ) (λ d. k.ticks_most x);
    waiter_ticks = λ i x b o. put_other s.ticks s.running t x (λ e. queued_rests i x o (sym e)) ∙ k.waiter_ticks i x b o;
    null_zeros = (k.null_zeros.0, put_other s.ticks s.running t 0 (λ e. h (sym e)) ∙ k.null_zeros.1);
    unused_zeros = λ x z. ((k.unused_zeros x z).0, put_other s.ticks s.running t x (λ e. omega (arith, runs_once s, ap (places s) e)) ∙ (k.unused_zeros x z).1);
  }

  -- every move
  pub move-seated : (d : ℕ) (m : Procs) → 1 ≤ n → Move n s d m → Seated n m
  move-seated d m h stay = k
  move-seated d m h (idle z) = k
  move-seated d m h (spend t r e) = left-seated (suc t) r (omega arith) (omega (arith, k.ticks_most s.running))
  move-seated d m h (again r) =
      rear_seated (level s s.running) s.running (s.class s.running) n (omega (arith, k.in_class s.running)) (omega arith) runner_range (k.in_class s.running) (λ z. refl) h (omega arith) (λ z. refl)
  move-seated d m h (rear p c p₁ p₂ away hc) = rear_seated c p c n (omega arith) p₁ p₂ hc (λ z. refl) h (omega arith) (λ z. refl)
  move-seated d m h (pause q r h₅ hq) =
      rear_seated q s.running (s.class s.running) n hq (omega arith) runner_range (k.in_class s.running) (λ z. absurd (omega arith)) h (omega arith) (λ z. refl)
  move-seated d m h (halt p p₁) = gone-seated p p₁

others_seated : (n : ℕ) {s s' : Procs} → 1 ≤ n → Seated n s → Others n s s' → Seated n s'
others_seated n h k none = k
others_seated n h k (also {s} {m} v kept rest) = others_seated n h (move-seated n s k 0 m h v) rest

pub chain_seated : (n : ℕ) (s : Procs) → Seated n s → (d : ℕ) (m : Procs) → 1 ≤ n → Chain n s d m → Seated n m
chain_seated n s k d m h v = others_seated n h (move-seated n s k d v.midway h v.first) v.others
