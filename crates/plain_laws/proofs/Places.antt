-- In how many places a process stands, and what a move does to that count. After these laws `spots` stays shut.
-- Assumes nothing.
use Prim.Native.Nat.{ℕ, ◌+◌, ◌≤◌, ◌<◌}
use mathlib.Core.Path.{◌≡◌, refl, sym, ap, ◌∙◌}
use mathlib.Core.Logic.{◌≢◌, ⊎_elim}
use mathlib.Core.List.{List, [], ◌∷◌, ◌++◌}
use native.Mathlib.Omega.{arith}
use borrow.Author.Tests.{eq-eqb, ne_eqb}
use Rattle.lists.specs.Lists.{put, one, occurs, without}
use Rattle.std.proofs.lemmas.Bool.{cases_eq}
use Rattle.lists.proofs.Laws.{put_same, put_other, one_same, one_other, occurs_rear, occurs-without-same, occurs-without_other, total-same, total_zero, total-at, total_two, total_change}
use Rattle.plain.specs.Sizes.{queues}
use Rattle.plain.specs.State.{Procs, spots, places}
use Rattle.plain_laws.specs.Moves.{rid, leave, to_rear}

pub spots-run : (r r' : ℕ) (f : ℕ → List ℕ) (x : ℕ) → spots r' f x + one r x ≡ spots r f x + one r' x
unfolding spots
spots-run r r' f x = omega arith

pub spots-line : (r : ℕ) (f : ℕ → List ℕ) (q : ℕ) (l : List ℕ) (x : ℕ) → q < queues → spots r (put f q l) x + occurs x (f q) ≡ spots r f x + occurs x l
unfolding spots
spots-line r f q l x h =
    omega (arith, total_change queues (λ i. occurs x (f i)) (λ i. occurs x (put f q l i)) q h (λ j d. ap (occurs x) (put_other f q l j d)), ap (occurs x) (put_same f q l))

pub spots-at : (r : ℕ) (f : ℕ → List ℕ) (q x : ℕ) → q < queues → one r x + occurs x (f q) ≤ spots r f x
unfolding spots
spots-at r f q x h = omega (arith, total-at queues (λ i. occurs x (f i)) q h)

pub spots_two : (r : ℕ) (f : ℕ → List ℕ) (q q' x : ℕ) → q < queues → q' < queues → q ≢ q' → one r x + occurs x (f q) + occurs x (f q') ≤ spots r f x
unfolding spots
spots_two r f q q' x h h' d = omega (arith, total_two queues (λ i. occurs x (f i)) q q' h h' d)

pub runs_once : (s : Procs) → 1 ≤ places s s.running
unfolding spots
runs_once s = omega (arith, one_same s.running)

-- ---- p leaves

without-same : (r : ℕ) (f : ℕ → List ℕ) (p : ℕ) → spots r (λ q. without p (f q)) p ≡ one r p
unfolding spots
without-same r f p = omega (arith, total_zero queues (λ i. occurs p (without p (f i))) (λ i h. occurs-without-same p (f i)))

without_other : (r : ℕ) (f : ℕ → List ℕ) (x p : ℕ) → x ≢ p → spots r (λ q. without p (f q)) x ≡ spots r f x
unfolding spots
without_other r f x p d = omega (arith, total-same queues (λ i. occurs x (without p (f i))) (λ i. occurs x (f i)) (λ i h. occurs-without_other x p (f i) d))

rid-one : (r p x : ℕ) → 1 ≤ x → x ≢ p → one (rid r p) x ≡ one r x
rid-one r p x h d = ⊎_elim (λ e. rw (eq-eqb r p e) (omega (arith, one_other 0 x (omega arith), one_other r x (λ b. d (sym b ∙ e))))) (λ n. rw (ne_eqb r p n) refl) (cases_eq r p)

rid-gone : (r p : ℕ) → 1 ≤ p → one (rid r p) p ≡ 0
rid-gone r p h = ⊎_elim (λ e. rw (eq-eqb r p e) (one_other 0 p (omega arith))) (λ n. rw (ne_eqb r p n) (one_other r p n)) (cases_eq r p)

module _ (p c t : ℕ) (s : Procs) where
  pub leave-gone : 1 ≤ p → places (leave p c t s) p ≡ 0
  unfolding leave
  leave-gone h = omega (arith, without-same (rid s.running p) s.queue p, rid-gone s.running p h)

  pub leave_kept : (x : ℕ) → 1 ≤ x → x ≢ p → places (leave p c t s) x ≡ places s x
  unfolding leave
  leave_kept x h d = omega (arith, without_other (rid s.running p) s.queue x p d, spots-run s.running (rid s.running p) s.queue x, rid-one s.running p x h d)

  -- ---- p leaves for the rear of queue q

  rear_more : (q x : ℕ) → q < queues → places (to_rear q p c t s) x ≡ places (leave p c t s) x + one p x
  unfolding to_rear leave
  rear_more q x h = omega (
    arith,
    spots-line (rid s.running p) (λ i. without p (s.queue i)) q (without p (s.queue q) ++ (p ∷ [])) x h,
    occurs_rear x p (without p (s.queue q)),
  )

  pub rear_placed : (q : ℕ) → q < queues → 1 ≤ p → places (to_rear q p c t s) p ≡ 1
  rear_placed q h h₁ = omega (arith, rear_more q p h, leave-gone h₁, one_same p)

  pub rear_kept : (q x : ℕ) → q < queues → 1 ≤ x → x ≢ p → places (to_rear q p c t s) x ≡ places s x
  rear_kept q x h h₁ d = omega (arith, rear_more q x h, leave_kept x h₁ d, one_other p x (λ e. d (sym e)))

  -- who stands in a queue afterwards: p at the rear of q, and others where they stood
  pub rear_other : (q i x : ℕ) → x ≢ p → occurs x ((to_rear q p c t s).queue i) ≡ occurs x (s.queue i)
  unfolding to_rear leave
  rear_other q i x d = ⊎_elim
      (λ (e : i ≡ q). rw (e, put_same (λ j. without p (s.queue j)) q (without p (s.queue q) ++ (p ∷ [])))
      (omega (arith, occurs_rear x p (without p (s.queue q)), occurs-without_other x p (s.queue q) d, one_other p x (λ b. d (sym b)))))
      (λ (e : i ≢ q). rw (put_other (λ j. without p (s.queue j)) q (without p (s.queue q) ++ (p ∷ [])) i e) (occurs-without_other x p (s.queue i) d))
      (cases_eq i q)

  pub rear_elsewhere : (q i : ℕ) → i ≢ q → (to_rear q p c t s).queue i ≡ without p (s.queue i)
  unfolding to_rear leave
  rear_elsewhere q i e = put_other (λ j. without p (s.queue j)) q (without p (s.queue q) ++ (p ∷ [])) i e

  pub rear_there : (q : ℕ) → (to_rear q p c t s).queue q ≡ without p (s.queue q) ++ (p ∷ [])
  unfolding to_rear leave
  rear_there q = put_same (λ j. without p (s.queue j)) q (without p (s.queue q) ++ (p ∷ []))

  pub rear_only : (q i : ℕ) → 1 ≤ occurs p ((to_rear q p c t s).queue i) → i ≡ q
  rear_only q i o = ⊎_elim (λ e. e) (λ d. absurd (omega (arith, ap (occurs p) (rear_elsewhere q i d), occurs-without-same p (s.queue i)))) (cases_eq i q)
