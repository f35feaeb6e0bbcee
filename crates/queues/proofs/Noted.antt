-- What stands in a table in which those of a queue were noted, at each process.
-- Assumes nothing.
use Prim.Native.Nat.{ℕ, ◌+◌, ◌*◌, ◌<◌}
use mathlib.Core.Path.{◌≡◌, refl, sym, ◌∙◌, subst}
use mathlib.Core.Logic.{◌≢◌, ⊎_elim}
use mathlib.Core.List.{List, [], ◌∷◌}
use native.Mathlib.Omega.{arith}
use lib.ListN.{length, get_or, set, length-set}
use lib.Seq.{get_or-set_same, get_or-set_other}
use borrow.Author.Tests.{eq-eqb, ne_eqb}
use Rattle.lists.specs.Lists.{one, occurs, ahead}
use Rattle.std.proofs.lemmas.Bool.{cases_eq}
use Rattle.lists.proofs.Laws.{one_same, one_other}
use Rattle.queues.specs.Noted.{one_ahead, noted}

pub noted_none : (t : List ℕ) (w : ℕ) → noted t w [] ≡ t
unfolding noted
noted_none t w = refl

pub noted_one : (t : List ℕ) (w x : ℕ) (l : List ℕ) → noted t w (x ∷ l) ≡ noted (set t x w) (w + one_ahead) l
unfolding noted
noted_one t w x l = refl

pub noted-length : (t : List ℕ) (w : ℕ) (l : List ℕ) → length (noted t w l) ≡ length t
unfolding noted
noted-length t w [] = refl
noted-length t w (x ∷ l) = noted-length (set t x w) (w + one_ahead) l ∙ length-set t x w

-- who is not of l keeps what was noted of him
pub noted_off : (t : List ℕ) (w : ℕ) (l : List ℕ) (p : ℕ) → occurs p l ≡ 0 → get_or (noted t w l) p 0 ≡ get_or t p 0
unfolding noted
noted_off t w [] p z = refl
noted_off t w (x ∷ l) p z = ⊎_elim
    (λ (e : x ≡ p). absurd (omega (arith, z, subst (λ (y : ℕ). one y p ≡ 1) (sym e) (one_same p))))
    (λ (d : x ≢ p). noted_off (set t x w) (w + one_ahead) l p (omega (arith, z)) ∙ get_or-set_other t x p w 0 (λ e. d (sym e)))
    (cases_eq x p)

-- who stands in l once has the first one's note, and so much more for each one ahead
pub noted-on : (t : List ℕ) (w : ℕ) (l : List ℕ) (p : ℕ) → p < length t → occurs p l ≡ 1 → get_or (noted t w l) p 0 ≡ w + one_ahead * ahead p l
unfolding noted
noted-on t w [] p h o = absurd (omega arith)
noted-on t w (x ∷ l) p h o = ⊎_elim
    (λ (e : x ≡ p). rw (eq-eqb x p e) (noted_off (set t x w) (w + one_ahead) l p (omega (arith, o, subst (λ (y : ℕ). one y p ≡ 1) (sym e) (one_same p)))
    ∙ subst (λ (y : ℕ). get_or (set t y w) p 0 ≡ w + one_ahead * 0) (sym e) (get_or-set_same t p w 0 h ∙ omega arith)))
    (λ (d : x ≢ p). rw (ne_eqb x p d) (noted-on (set t x w) (w + one_ahead) l p (rw (length-set t x w) h) (omega (arith, o, one_other x p d)) ∙ omega arith))
    (cases_eq x p)
