-- The way on along the links: how it goes step by step, and that in tables that hold queues it passes the members of a queue.
-- Assumes nothing.
use Prim.Native.Nat.{ℕ, zero, suc, ◌+◌, ◌-◌, ◌≤◌, ◌<◌}
use mathlib.Core.Path.{◌≡◌, refl, sym, ap}
use mathlib.Core.Logic.{⊎_elim}
use mathlib.Core.List.{List, [], ◌∷◌, ◌++◌}
use native.Mathlib.Omega.{arith}
use lib.ListN.{length, get_or}
use borrow.Author.Tests.{lt-ltb, le-ltb}
use Rattle.lists.proofs.Laws.{le?}
use Rattle.rings.specs.Ring.{Tables, Chain, step, Rings}
use Rattle.rings.proofs.Chains.{Below, below_first, below_rest}
use Rattle.rings.proofs.Laws.{at_most_all}
use Rattle.queues.specs.Queue.{processes, queues}
use Rattle.queues.specs.Lines.{onward, line}

-- ---- step by step

pub onward-on : (next : List ℕ) (steps node : ℕ) → 0 < steps → node < processes → onward next steps node ≡ node ∷ onward next (steps - 1) (get_or next node 0)
unfolding onward
onward-on next zero node o h = absurd (omega arith)
onward-on next (suc steps) node o h = let e : suc steps - 1 ≡ steps = omega arith in rw (e, lt-ltb node processes h)

pub onward-done : (next : List ℕ) (steps node : ℕ) → steps ≤ 0 → onward next steps node ≡ []
unfolding onward
onward-done next zero node h = refl
onward-done next (suc steps) node h = absurd (omega arith)

pub onward-ends : (next : List ℕ) (steps node : ℕ) → processes ≤ node → onward next steps node ≡ []
unfolding onward
onward-ends next zero node h = refl
onward-ends next (suc steps) node h = rw (le-ltb node processes h)

pub line_within : (next : List ℕ) (q : ℕ) → q < queues → line next q ≡ onward next processes (get_or next (processes + q) 0)
unfolding line
line_within next q h = rw (lt-ltb q queues h)

pub line_beyond : (next : List ℕ) (q : ℕ) → queues ≤ q → line next q ≡ []
unfolding line
line_beyond next q h = rw (le-ltb q queues h)

-- ---- in tables that hold queues

-- from the node before the first of l, through members, to a head
passes : {t : Tables} {a : ℕ} (l : List ℕ) (h : ℕ) → Chain t a (l ++ h ∷ []) → Below processes l → processes ≤ h → (steps : ℕ) → length l ≤ steps → onward t.next steps (get_or t.next a 0) ≡ l
unfolding onward
passes {t} [] h (step e c) b out steps few = rw e.to (onward-ends t.next steps h out)
passes (x ∷ l) h (step e c) b out zero few = absurd (omega arith)
passes (x ∷ l) h (step e c) b out (suc steps) few = rw (e.to, lt-ltb x processes (below_first x l b)) (ap (λ (r : List ℕ). x ∷ r) (passes l h c (below_rest x l b) out steps (omega arith)))

pub line_is : {t : Tables} {f : ℕ → List ℕ} → Rings processes queues t f → (q : ℕ) → line t.next q ≡ f q
unfolding line
line_is {t} {f} R q = ⊎_elim
    (λ h. rw (le-ltb q queues h) (sym (R.beyond q h)))
    (λ h. rw (lt-ltb q queues h) (passes (f q) (processes + q) (R.ring q h) (R.members q) (omega arith) processes (at_most_all R q)))
    (le? queues q)
