-- The question why a process waits: its reason in numbers, and no second one.
-- Assumes nothing.
use Prim.Native.Nat.{ℕ}
use mathlib.Core.Bool.{Bool, true, false}
use mathlib.Core.List.{List}
use mathlib.Core.Path.{◌≡◌, refl, sym, ap, ◌∙◌}
use lib.Dec.{eqb}
use Rattle.std.specs.Prelude.{Option, Some, None, if◌then◌else◌}
use Rattle.plain.specs.Names.{bare}
use Rattle.plain.specs.State.{State}
use Rattle.plain.specs.Why as Plain
use Rattle.promise.proofs.Runs.{agree}
use Rattle.promise.specs.Promise.{sound, unsound}
use Rattle.kernel.specs.Promise.{said}
use Rattle.reasons.specs.Reasons.{meant_by, reason_told, Explains}
use Rattle.reasons.specs.declared.Explained.{Explained}
use Rattle.reasons.specs.declared.Reason.{Reason}
use Rattle.board.specs.Area.{Lies}
use Rattle.board.specs.Reasons.{answer_of, numbers_of, numbers_or_zeros, Reasons}
use Rattle.board.specs.declared.Reasoned.{Reasoned}

-- the numbers of what is told are those of the plain kernel
as_told : (s : State) (p : ℕ) → numbers_or_zeros (reason_told s p) ≡ Plain.numbers (Plain.told s p)
as_told s p = go (eqb (Plain.why s p).answer.code 0)
  where
    go : (b : Bool) → numbers_or_zeros (if b then Some (Plain.reason s (bare p)) else None) ≡ Plain.numbers (if b then Plain.reason s (bare p) else Plain.unused)
    go true = refl
    go false = refl

-- the same answer, with the reason in numbers
pub in_numbers : {area : List ℕ} (p : ℕ) (w : Explained) (r : Reasoned) → Explains Lies area p w → answer_of r ≡ said w.answer → numbers_of r ≡ numbers_or_zeros (meant_by w.reason) → Reasons area p r
in_numbers p w r (sound i h) a n = rw a (sound i (λ s l S. let g = h s l S in (g.0, n ∙ (ap numbers_or_zeros g.1 ∙ as_told s p))))
in_numbers p w r (unsound u e x z) a n = unsound u e (a ∙ x) (n ∙ ap (λ (o : Option Reason). numbers_or_zeros (meant_by o)) z)

-- an answer in numbers is nothing but its answer and its reason
one_reasoned : (r r' : Reasoned) → answer_of r ≡ answer_of r' → numbers_of r ≡ numbers_of r' → r ≡ r'
one_reasoned r r' a n = λ i. record { code = (a i).code; number = (a i).number; running = (a i).running; kind = (n i).kind; which = (n i).which; ahead = (n i).ahead }

pub one-reason : (area : List ℕ) (p : ℕ) (r r' : Reasoned) → Reasons area p r → Reasons area p r' → r ≡ r'
one-reason area p r r' a b =
    let e = agree Lies (numbers_of r ≡ numbers_of r') a b (λ s x y. x ∙ sym y) (λ x y. x ∙ sym y) in
    one_reasoned r r' e.0 e.1
