-- The theorems, from the encoding of the whole struct.
-- Assumes nothing.
use mathlib.Core.Path.{◌≡◌, refl, sym, ap, ◌∙◌}
use mathlib.Core.Bool.{Bool, true, false}
use mathlib.Core.List.{List}
use Prim.Native.Nat.{ℕ}
use lib.Dec.{eqb}
use lib.ListN.{length}
use borrow.Author.Tests.{eqb-true, eqb-false}
use Rattle.image.specs.Image.{size}
use Rattle.image.specs.Theorems.{OneToOne, NoSecond}
use Rattle.image.proofs.Structs.{image_code}

pub one_to_one : OneToOne
one_to_one = record { long = image_code.long; bytes = image_code.bytes; one = image_code.one; every = image_code.every }

-- what follows from one length and from any other follows
pub by_length : (area : List ℕ) (P : Type 0) → (length area ≡ size → P) → ((length area ≡ size → ⊥) → P) → P
by_length area P is other = go (eqb (length area) size) refl
  where
    go : (t : Bool) → eqb (length area) size ≡ t → P
    go true e = is (eqb-true (length area) size e)
    go false e = other (eqb-false (length area) size e)

pub no_second : NoSecond
no_second = record {
  read = λ area k n s t p q.
      by_length area (k ≡ n)
      (λ e. image_code.one k n s t (p.whole e ∙ sym (q.whole e)))
      (λ e. p.other e ∙ sym (q.other e));
  written = λ k area a b p q.
      by_length area (a ≡ b)
      (λ e. p.whole e ∙ sym (q.whole e))
      (λ e. p.other e ∙ sym (q.other e));
  back = λ k n area after s t e p q.
      let w = p.whole e in
      image_code.one n k t s (q.whole (ap length w ∙ image_code.long k s) ∙ w);
}
