-- Which numbers are unused after each change of the processes: only a create and a stop change that, each for one number.
-- Assumes nothing.
use Prim.Native.Nat.{ℕ, zero, suc, ◌-◌, ◌≤◌, ◌<◌}
use mathlib.Core.Bool.{Bool, true, false, not, ◌&&◌}
use mathlib.Core.List.{List, ◌∷◌}
use mathlib.Core.Logic.{◌≢◌, ⊎_elim}
use mathlib.Core.Path.{◌≡◌, refl, sym, ap, ◌∙◌, subst}
use native.Mathlib.Omega.{arith}
use lib.Dec.{eqb}
use borrow.Author.Tests.{eq-eqb, ne_eqb}
use Rattle.std.proofs.lemmas.Bool.{cases_Bool, cases_eq}
use Rattle.lists.proofs.Laws.{put_cases}
use Rattle.lists.specs.Lists.{put}
use Rattle.bits.proofs.Words.{word_same}
use Rattle.bits.specs.Word.{width, word}
use Rattle.plain.specs.Calls.{yielded, regraded, spent, ticked}
use Rattle.plain.specs.Runs.{make_ready, go_to, halt}
use Rattle.plain.specs.Sizes.{processes, classes, queues}
use Rattle.plain.specs.Sound.{Seated, Highest, In}
use Rattle.plain.specs.State.{Procs, places, line, rank}
use Rattle.plain_laws.proofs.Calls.{go_to_settles, create_settles, wake_settles, halt_settles, wait_settles}
use Rattle.plain_laws.proofs.Places.{runs_once, leave-gone, leave_kept, rear_placed, rear_kept}
use Rattle.plain_laws.proofs.Seats.{head_in, member, queued, runner_range, runner_away, rear_seated, gone-seated}
use Rattle.plain_laws.proofs.Settle.{settle_kept}
use Rattle.plain_laws.specs.Moves.{leave, to_rear, settle}
use Rattle.procs.specs.Stands.{is_unused}

-- the same processes are used
abbrev pub SameUsed : Procs → Procs → Type 0
SameUsed s s' = (x : ℕ) → 1 ≤ x → places s' x ≡ places s x

pub same_word : (s s' : Procs) → SameUsed s s' → word width (is_unused s') ≡ word width (is_unused s)
same_word s s' h = word_same width (is_unused s') (is_unused s) (λ x b. ⊎_elim (λ e. rw e refl) (λ (d : x ≢ 0). ap (λ (n : ℕ). not (eqb x 0) && eqb n 0) (h x (omega arith))) (cases_eq x 0))

-- p is used, or unused, and all others are as they were
changed_word : (s s' : Procs) (p : ℕ) (v : Bool) → 1 ≤ p → eqb (places s' p) 0 ≡ v → ((x : ℕ) → 1 ≤ x → x ≢ p → places s' x ≡ places s x) → word width (is_unused s') ≡ word width (put (is_unused s) p v)
changed_word s s' p v hp e h = word_same width (is_unused s') (put (is_unused s) p v) (λ x b. put_cases (λ (a : Bool). is_unused s' x ≡ a) (is_unused s) p v x
    (λ (d : x ≡ p). rw (d, ne_eqb p 0 (λ z. omega arith)) e)
    (λ (d : x ≢ p). ⊎_elim (λ z. rw z refl) (λ (z : x ≢ 0). ap (λ (n : ℕ). not (eqb x 0) && eqb n 0) (h x (omega arith) d)) (cases_eq x 0)))

module _ {n : ℕ} (some : 1 ≤ n) (s : Procs) (k : Seated n s) where
  -- p, who is used, goes to the rear of queue q; settle
  rear_used : (q p c : ℕ) → q < queues → 1 ≤ p → p < processes → c < classes → (q < classes → c ≡ q) → 1 ≤ places s p → SameUsed s (settle (to_rear q p c n s))
  rear_used q p c hq hp hp' hc own used x h =
      (settle_kept n (to_rear q p c n s) (rear_seated n s k q p c n hq hp hp' hc own some (omega arith) (λ z. refl))).placed x h
      ∙ ⊎_elim (λ (e : x ≡ p). subst (λ (y : ℕ). places (to_rear q p c n s) y ≡ places s y) (sym e) (omega (arith, rear_placed p c n s q hq hp, k.one_place p hp)))
      (λ (d : x ≢ p). rear_kept p c n s q x hq h d) (cases_eq x p)

  goes_used : (q c : ℕ) → s.running ≢ 0 → q < queues → c < classes → (q < classes → c ≡ q) → SameUsed s (settle (to_rear q s.running c n s))
  goes_used q c z hq hc own = rear_used q s.running c hq (omega arith) (runner_range n s k) hc own (runs_once s)

  module _ (hi : Highest s) where
    pub go_to-used : (q : ℕ) → s.running ≢ 0 → classes ≤ q → q < queues → SameUsed s (go_to n q s)
    go_to-used q z h hq = rw (wait_settles n s k hi q) (goes_used q (s.class s.running) z hq (k.in_class s.running) (λ b. absurd (omega arith)))

    pub yielded-used : s.running ≢ 0 → SameUsed s (yielded n s)
    yielded-used z = rw (wait_settles n s k hi (s.class s.running)) (goes_used (s.class s.running) (s.class s.running) z (omega (arith, k.in_class s.running)) (k.in_class s.running) (λ b. refl))

    pub regraded-used : (c : ℕ) → s.running ≢ 0 → c < classes → SameUsed s (regraded n c s)
    regraded-used c z hc = ⊎_elim (λ e. rw e (λ x h. refl))
        (λ e. rw e (rw (go_to_settles n c c s (runner_away n s k)) (goes_used c c z (omega arith) hc (λ b. refl))))
        (cases_Bool (eqb c (s.class s.running)))

    pub ticked-used : SameUsed s (ticked n s)
    ticked-used = ⊎_elim (λ (e : s.running ≡ 0). rw (eq-eqb s.running 0 e) (λ x h. refl))
        (λ (d : s.running ≢ 0). rw (ne_eqb s.running 0 d) (go d (s.ticks s.running - 1)))
        (cases_eq s.running 0)
      where
        go : s.running ≢ 0 → (t : ℕ) → SameUsed s (spent n t s)
        go d zero = yielded-used d
        go d (suc t) = λ x h. refl

    pub woken-used : (q w : ℕ) (l : List ℕ) → classes ≤ q → s.queue q ≡ w ∷ l → SameUsed s (make_ready n w (line q l s))
    woken-used q w l hq e =
        let here : In s q w = head_in n s k q w l e in
        let who = member n s k q w here in
        rw (wake_settles n s k hi q w l hq e) (rear_used (s.class w) w (s.class w) (omega (arith, k.in_class w)) who.0 who.1 (k.in_class w) (λ b. refl) (queued n s k q w here))

    pub created-word : (p c : ℕ) → places s p ≡ 0 → 1 ≤ p → p < processes → c < classes → word width (is_unused (make_ready n p (rank p c s))) ≡ word width (put (is_unused s) p false)
    created-word p c free hp hp' hc =
        let m : Procs = to_rear c p c n s in
        let kept = settle_kept n m (rear_seated n s k c p c n (omega arith) hp hp' hc (λ z. refl) some (omega arith) (λ z. refl)) in
        rw (create_settles n s k hi p c free hc) (changed_word s (settle m) p false hp
        (ne_eqb (places (settle m) p) 0 (λ z. omega (arith, kept.placed p hp, rear_placed p c n s c (omega arith) hp)))
        (λ x h d. kept.placed x h ∙ rear_kept p c n s c x (omega arith) h d))

    pub halted-word : (p : ℕ) → 1 ≤ p → word width (is_unused (halt p s)) ≡ word width (put (is_unused s) p true)
    halted-word p hp =
        let m : Procs = leave p 0 0 s in
        let kept = settle_kept n m (gone-seated n s k p hp) in
        rw (halt_settles n s k hi p) (changed_word s (settle m) p true hp
        (eq-eqb (places (settle m) p) 0 (kept.placed p hp ∙ leave-gone p 0 0 s hp))
        (λ x h d. kept.placed x h ∙ leave_kept p 0 0 s x h d))
