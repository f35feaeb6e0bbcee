-- Kernels that barge do not keep what waiters were promised: one moment of each, in which 1, 2 and 3 wait at semaphore 0 or at mailbox 0, and 0 runs before it.
-- Assumes nothing.
use Prim.Native.Nat.{ℕ}
use mathlib.Core.Bool.{true≢false}
use mathlib.Core.List.{List, [], ◌∷◌, nil≢cons}
use mathlib.Core.Logic.{◌≢◌, inl, inr}
use mathlib.Core.Path.{◌≡◌, refl, sym}
use native.Mathlib.Omega.{arith}
use Rattle.lists.specs.Lists.{put, total}
use Rattle.plain.specs.Sizes.{at_mailbox, at_semaphore}
use Rattle.plain.specs.State.{Procs, spots}
use Rattle.plain.specs.Calls.{Call, send, signal, wait}
use Rattle.plain_laws.specs.History.{Moment}
use Rattle.plain_laws.specs.Waiters.{served, turned_away, Over, readied, stopped, later, Orderly, InOrder}

abbrev q : ℕ
q = at_semaphore 0

abbrev three : List ℕ
three = 1 ∷ 2 ∷ 3 ∷ []

-- p runs, and l wait in queue i
abbrev standing : ℕ → ℕ → List ℕ → Procs
standing i p l = record { running = p; queue = put (λ j. []) i l; class = λ x. 0; ticks = λ x. 5 }

-- a call that is answered with this code, and who runs and who waits after it
abbrev answered : Call → ℕ → ℕ → ℕ → List ℕ → Moment
answered c code i p l = record { from = standing i 0 three; call = c; answer = record { code = code; number = 0; running = p }; to = standing i p l }

abbrev Kept : Moment → Type 0
Kept t = Orderly q 13 (standing q 0 three) (t ∷ [])

-- a wait is not over before anything has happened
not_yet : {i p : ℕ} (ms : List Moment) → ms ≡ [] → Over i p ms → ⊥
not_yet [] e o = elim o [ ]
not_yet (t ∷ ms) e (readied v b) = nil≢cons (sym e)
not_yet (t ∷ ms) e (stopped u) = nil≢cons (sym e)
not_yet (t ∷ ms) e (later o rest) = nil≢cons (sym e)

-- who is woken goes to the rear of those who wait again
woken_waits_again : Kept (answered (signal 0) 0 q 0 (2 ∷ 3 ∷ 1 ∷ [])) → ⊥
unfolding served spots total
woken_waits_again k = go (k.in_time 1 (omega arith) (omega arith))
  where
    go : Over q 1 (answered (signal 0) 0 q 0 (2 ∷ 3 ∷ 1 ∷ []) ∷ []) → ⊥
    go (readied v (inl e)) = omega arith
    go (readied v (inr o)) = omega arith
    go (stopped u) = true≢false (sym u)
    go (later o rest) = not_yet [] refl rest

other_first : {x y : ℕ} {l r : List ℕ} → x ≢ y → x ∷ l ≡ y ∷ r → ⊥
other_first d e = d cc

-- a signal raises the count while someone waits, or is for the last who came; it is refused, the count being full
counted_past_a_waiter : Kept (answered (signal 0) 0 q 0 three) → ⊥
unfolding spots total
counted_past_a_waiter k = other_first (omega arith) k.in_line.0.1

last_goes_first : Kept (answered (signal 0) 0 q 3 (1 ∷ 2 ∷ [])) → ⊥
unfolding spots total
last_goes_first k = other_first (omega arith) k.in_line.0.1

full_while_one_waits : Kept (answered (signal 0) 13 q 0 three) → ⊥
unfolding turned_away
full_while_one_waits k = let e = k.never_full in omega arith

-- who comes to wait stands before those who wait already
waits_at_the_front : Kept (answered (wait 0) 32 q 0 (4 ∷ three)) → ⊥
unfolding spots total
waits_at_the_front k = other_first (omega arith) k.in_line.0.1

-- a message goes into another hand than that of the first who waits
taken_past_a_waiter : (b : List ℕ) → InOrder 0 three (record { moment = answered (send 0 b) 0 (at_mailbox 0) 2 (1 ∷ 3 ∷ []); in_hand = λ p c. p ≡ 2 } ∷ []) → ⊥
taken_past_a_waiter b k = omega (arith, k.0 b refl refl)
