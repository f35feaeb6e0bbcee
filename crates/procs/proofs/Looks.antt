-- What is read off a struct that keeps some processes: which numbers are unused, and who is first in a queue.
-- Assumes nothing.
use Prim.Native.Nat.{ℕ, suc, ◌-◌, ◌≤◌, ◌<◌}
use mathlib.Core.Path.{◌≡◌, refl, ◌∙◌}
use mathlib.Core.Bool.{Bool, true, false, not, ◌||◌}
use mathlib.Core.Logic.{◌≢◌, ⊎_elim}
use mathlib.Core.List.{List, [], ◌∷◌}
use native.Mathlib.Omega.{arith}
use lib.Dec.{eqb}
use borrow.Author.Tests.{eq-eqb, ne_eqb}
use Rattle.lists.specs.Lists.{lowest}
use Rattle.std.proofs.lemmas.Bool.{cases_eq}
use Rattle.lists.proofs.Laws.{lowest-same}
use Rattle.bits.specs.Word.{width}
use Rattle.bits.proofs.Words.{word_has, word-lowest}
use Rattle.rings.proofs.Looks.{first_is}
use Rattle.plain.specs.Sizes.{processes}
use Rattle.plain.specs.State.{Procs, unused, free_process}
use Rattle.procs.specs.Stands.{Numbers, is_unused, Keeps}
use Rattle.procs.specs.Moves.{unused_at, lowest_unused, first_of}

-- the lowest is looked for from 1 on where 0 does not pass
from_one : (n : ℕ) (t : ℕ → Bool) → t 0 ≡ false → lowest 0 (suc n) t ≡ lowest 1 n t
unfolding lowest
from_one n t e = rw e

module _ {k : Numbers} {s : Procs} (K : Keeps k s) where
  pub lowest-unused : lowest_unused k ≡ free_process s
  unfolding free_process
  lowest-unused =
      word-lowest width (is_unused s) K.unused
      ∙ from_one (processes - 1) (is_unused s) refl
      ∙ lowest-same 1 (processes - 1) (is_unused s) (unused s) (λ p a b. rw (ne_eqb p 0 (λ e. omega arith)))

  pub unused-bit : (p : ℕ) → 1 ≤ p → p < processes → unused_at k p ≡ unused s p
  unused-bit p h h' = word_has width (is_unused s) K.unused p h' ∙ rw (ne_eqb p 0 (λ e. omega arith))

  -- whether a number, which is a process's if it is named, is nobody to stop
  pub no_process_lem : (is_named : Bool) (p : ℕ) → (is_named ≡ true → p < processes) → (eqb p 0 || (not is_named || unused_at k p)) ≡ (eqb p 0 || (not is_named || unused s p))
  no_process_lem false p low = refl
  no_process_lem true p low = ⊎_elim (λ (e : p ≡ 0). rw (eq-eqb p 0 e)) (λ (d : p ≢ 0). rw (unused-bit p (omega arith) (low refl))) (cases_eq p 0)

  module _ (q : ℕ) {w : ℕ} (is : w ≡ first_of k q) where
    pub first_there : w < processes → (l : List ℕ) × (s.queue q ≡ w ∷ l)
    first_there = (first_is is).leads s.queue K.stands.queues

    pub first_nobody : processes ≤ w → s.queue q ≡ []
    first_nobody = (first_is is).vacant s.queue K.stands.queues
