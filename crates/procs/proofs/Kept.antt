-- A struct that keeps the processes of a sound state between calls keeps, after each operation, what the plain kernel says.
-- Assumes nothing.
use Prim.Native.Nat.{ℕ, ◌≤◌, ◌<◌}
use mathlib.Core.Path.{◌≡◌, refl, sym, ap, ◌∙◌}
use mathlib.Core.Logic.{◌≢◌, ⊎_elim}
use mathlib.Core.Bool.{Bool, true, false}
use mathlib.Core.List.{List, ◌∷◌}
use lib.Dec.{eqb, ltb}
use Rattle.lists.specs.Lists.{put, total}
use Rattle.std.proofs.lemmas.Bool.{cases_Bool}
use Rattle.bits.specs.Word.{width, word, bits, highest}
use Rattle.bits.proofs.Words.{word_put}
use Rattle.plain.specs.Sizes.{processes, classes, queues}
use Rattle.plain.specs.State as Plain
use Rattle.plain.specs.Runs.{make_ready, go_to, halt}
use Rattle.plain.specs.Calls as Call
use Rattle.plain.specs.Sound.{Seated, Highest}
use Rattle.plain_laws.proofs.Seats.{runner_range, runner_away}
use Rattle.procs.specs.Stands.{Numbers, Stands, is_unused, Keeps}
use Rattle.procs.specs.Moves.{class_at, ticks_at, first_of, fresh, runs, ranked, timed, marked, requeued, joined, fronted, gone, first_runs, chosen, stood_down, is_above, preempted, readied, created, woken, went_to, yielded, regraded, ticked, removed, halted}
use Rattle.procs.proofs.Held.{fresh-held}
use Rattle.procs.proofs.Calls.{went_held, created-held, woken-held, yielded-held, regraded-held, ticked-held, halted-held}
use Rattle.procs.proofs.Unused.{SameUsed, same_word, go_to-used, yielded-used, regraded-used, ticked-used, woken-used, created-word, halted-word}

-- ---- the bits of the unused, for any numbers: create changes one, halt changes one, and nothing else does

abbrev Same : Numbers → Numbers → Type 0
Same k k' = k'.unused ≡ k.unused

abbrev Marked : ℕ → Bool → Numbers → Numbers → Type 0
Marked p v k k' = k'.unused ≡ word width (put (bits k.unused) p v)

chosen-same : (k : Numbers) → Same k (chosen k)
unfolding chosen first_runs runs gone requeued
chosen-same k = ⊎_elim (λ e. rw e) (λ e. rw e) (cases_Bool (ltb (highest width width (bits k.ready)) classes))

down_same : (k : Numbers) → Same k (stood_down k)
unfolding stood_down runs fronted requeued
down_same k = ⊎_elim (λ e. rw e) (λ e. rw e) (cases_Bool (eqb k.running 0))

readied-same : (n p : ℕ) (k : Numbers) → Same k (readied n p k)
unfolding readied preempted runs joined requeued timed
readied-same n p k = ⊎_elim (λ e. rw e (down_same (timed p n k))) (λ e. rw e) (cases_Bool (is_above p k))

went_same : (n q : ℕ) (k : Numbers) → Same k (went_to n q k)
unfolding went_to joined requeued timed
went_same n q k = chosen-same (joined q k.running (timed k.running n k))

yielded-same : (n : ℕ) (k : Numbers) → Same k (yielded n k)
unfolding yielded
yielded-same n k = went_same n (class_at k k.running) k

woken-same : (n q : ℕ) (k : Numbers) → Same k (woken n q k)
unfolding woken gone requeued
woken-same n q k = ⊎_elim (λ e. rw e (readied-same n (first_of k q) (gone q (first_of k q) k))) (λ e. rw e) (cases_Bool (ltb (first_of k q) processes))

regraded-same : (n c : ℕ) (k : Numbers) → Same k (regraded n c k)
unfolding regraded ranked
regraded-same n c k = ⊎_elim (λ e. rw e) (λ e. rw e (went_same n c (ranked k.running c k))) (cases_Bool (eqb c (class_at k k.running)))

ticked-same : (n : ℕ) (k : Numbers) → Same k (ticked n k)
unfolding ticked timed
ticked-same n k = ⊎_elim (λ e. rw e)
    (λ e. rw e (⊎_elim (λ f. rw f) (λ f. rw f (yielded-same n k)) (cases_Bool (ltb 1 (ticks_at k k.running)))))
    (cases_Bool (eqb k.running 0))

created-marked : (n p c : ℕ) (k : Numbers) → Marked p false k (created n p c k)
unfolding created ranked marked
created-marked n p c k = ap (λ (w : ℕ). word width (put (bits w) p false)) (readied-same n p (ranked p c k))

halted-marked : (p : ℕ) (k : Numbers) → Marked p true k (halted p k)
unfolding halted removed marked timed ranked gone requeued
halted-marked p k = ⊎_elim (λ e. rw e (chosen-same (removed p k))) (λ e. rw e) (cases_Bool (eqb k.running p))

-- ---- a struct between calls

pub fresh_kept : Keeps fresh (Plain.fresh).procs
unfolding fresh word Plain.spots total
fresh_kept = record { stands = fresh-held; unused = refl }

module _ {k : Numbers} {s : Plain.Procs} (K : Keeps k s) where
  same_kept : {k' : Numbers} {s' : Plain.Procs} → Stands k' s' → Same k k' → SameUsed s s' → Keeps k' s'
  same_kept {s' = s'} H e used = record { stands = H; unused = e ∙ K.unused ∙ sym (same_word s s' used) }

  marked_kept : {k' : Numbers} {s' : Plain.Procs} (p : ℕ) (v : Bool) → Stands k' s' → Marked p v k k' → word width (is_unused s') ≡ word width (put (is_unused s) p v) → Keeps k' s'
  marked_kept p v H e f = record { stands = H; unused = e ∙ word_put width (is_unused s) K.unused p v ∙ sym f }

  module _ {n : ℕ} (some : 1 ≤ n) (S : Seated n s) (hi : Highest s) where
    -- p, who is unused, is created as one of class c
    pub created_kept : (p c : ℕ) → Plain.places s p ≡ 0 → 1 ≤ p → p < processes → c < classes → Keeps (created n p c k) (make_ready n p (Plain.rank p c s))
    created_kept p c free hp hp' hc = marked_kept p false (created-held K.stands S p c hp' free hc) (created-marked n p c k) (created-word some s S hi p c free hp hp' hc)

    pub halted_kept : (p : ℕ) → 1 ≤ p → p < processes → Keeps (halted p k) (halt p s)
    halted_kept p hp hp' = marked_kept p true (halted-held K.stands S p hp') (halted-marked p k) (halted-word some s S hi p hp)

    -- w, the first of queue q, is woken
    pub woken_kept : (q w : ℕ) (l : List ℕ) → classes ≤ q → s.queue q ≡ w ∷ l → Keeps (woken n q k) (make_ready n w (Plain.line q l s))
    woken_kept q w l hq e = same_kept (woken-held K.stands S q w l e) (woken-same n q k) (woken-used some s S hi q w l hq e)

    -- the runner goes to queue q, where it waits
    pub went_kept : (q : ℕ) → s.running ≢ 0 → classes ≤ q → q < queues → Keeps (went_to n q k) (go_to n q s)
    went_kept q z h hq = same_kept (went_held n K.stands q hq (runner_range n s S) (runner_away n s S)) (went_same n q k) (go_to-used some s S hi q z h hq)

    pub yielded_kept : s.running ≢ 0 → Keeps (yielded n k) (Call.yielded n s)
    yielded_kept z = same_kept (yielded-held K.stands S) (yielded-same n k) (yielded-used some s S hi z)

    pub regraded_kept : (c : ℕ) → s.running ≢ 0 → c < classes → Keeps (regraded n c k) (Call.regraded n c s)
    regraded_kept c z hc = same_kept (regraded-held K.stands S c hc) (regraded-same n c k) (regraded-used some s S hi c z hc)

    pub ticked_kept : Keeps (ticked n k) (Call.ticked n s)
    ticked_kept = same_kept (ticked-held K.stands S) (ticked-same n k) (ticked-used some s S hi)
