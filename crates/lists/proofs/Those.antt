-- Those of a range of numbers that pass a test, and the first of them; that one list holds another.
-- Assumes nothing.
use Prim.Native.Nat.{ℕ, zero, suc, ◌+◌, ◌≤◌, ◌<◌}
use mathlib.Core.Path.{◌≡◌, refl, sym, ap, ◌∙◌, subst}
use mathlib.Core.Bool.{Bool, true, false, true≢false}
use mathlib.Core.Logic.{◌≢◌, ⊎_elim}
use mathlib.Core.List.{List, [], ◌∷◌, ◌++◌}
use native.Mathlib.Omega.{arith}
use lib.ListN.{length, take, length-append}
use Rattle.std.specs.Prelude.{if◌then◌else◌}
use Rattle.lists.specs.Lists.{one, occurs, those}
use Rattle.std.proofs.lemmas.Bool.{cases_eq}
use Rattle.lists.proofs.Laws.{one_same, one_other, one-le, occurs-append, Stands, stands}

module _ (b : ℕ) where
  -- i stands before the others, if it passes
  adds : (v : Bool) (i : ℕ) (l : List ℕ) → occurs b (if v then i ∷ l else l) ≡ (if v then one i b else 0) + occurs b l
  adds true i l = refl
  adds false i l = omega arith

  adds_none : (v : Bool) (i : ℕ) → (v ≡ true → i ≢ b) → (if v then one i b else 0) ≡ 0
  adds_none true i d = one_other i b (d refl)
  adds_none false i d = refl

  adds_most : (v : Bool) (i : ℕ) → (if v then one i b else 0) ≤ 1
  adds_most true i = one-le i b
  adds_most false i = omega arith

  -- how often b stands among the n from i on that pass
  pub those_below : (i n : ℕ) (t : ℕ → Bool) → b < i → occurs b (those i n t) ≡ 0
  unfolding those
  those_below i zero t h = refl
  those_below i (suc n) t h = omega (arith, adds (t i) i (those (suc i) n t), adds_none (t i) i (λ e. omega arith), those_below (suc i) n t (omega arith))

  pub those_past : (i n : ℕ) (t : ℕ → Bool) → i + n ≤ b → occurs b (those i n t) ≡ 0
  unfolding those
  those_past i zero t h = refl
  those_past i (suc n) t h = omega (arith, adds (t i) i (those (suc i) n t), adds_none (t i) i (λ e. omega arith), those_past (suc i) n t (omega arith))

  pub those_fails : (i n : ℕ) (t : ℕ → Bool) → t b ≡ false → occurs b (those i n t) ≡ 0
  unfolding those
  those_fails i zero t e = refl
  those_fails i (suc n) t e = omega (arith, adds (t i) i (those (suc i) n t), adds_none (t i) i (λ z d. true≢false (sym z ∙ (ap t d ∙ e))), those_fails (suc i) n t e)

  pub those-passes : (i n : ℕ) (t : ℕ → Bool) → i ≤ b → b < i + n → t b ≡ true → occurs b (those i n t) ≡ 1
  unfolding those
  those-passes i zero t h k e = absurd (omega arith)
  those-passes i (suc n) t h k e = ⊎_elim
      (λ (d : i ≡ b). let z : t i ≡ true = ap t d ∙ e in rw z (omega (arith, subst (λ (x : ℕ). one i x ≡ 1) d (one_same i), those_below (suc i) n t (omega arith))))
      (λ (d : i ≢ b). omega (arith, adds (t i) i (those (suc i) n t), adds_none (t i) i (λ z. d), those-passes (suc i) n t (omega arith) (omega arith) e))
      (cases_eq i b)

  pub those_once : (i n : ℕ) (t : ℕ → Bool) → occurs b (those i n t) ≤ 1
  unfolding those
  those_once i zero t = omega arith
  those_once i (suc n) t = ⊎_elim
      (λ (d : i ≡ b). omega (arith, adds (t i) i (those (suc i) n t), adds_most (t i) i, those_below (suc i) n t (omega arith)))
      (λ (d : i ≢ b). omega (arith, adds (t i) i (those (suc i) n t), adds_none (t i) i (λ z. d), those_once (suc i) n t))
      (cases_eq i b)

  pub take-occurs : (n : ℕ) (l : List ℕ) → occurs b (take n l) ≤ occurs b l
  take-occurs zero l = omega arith
  take-occurs (suc n) [] = omega arith
  take-occurs (suc n) (x ∷ l) = omega (arith, take-occurs n l)

-- the same numbers pass where the tests agree
pub those-same : (i n : ℕ) (t u : ℕ → Bool) → ((j : ℕ) → i ≤ j → j < i + n → t j ≡ u j) → those i n t ≡ those i n u
unfolding those
those-same i zero t u h = refl
those-same i (suc n) t u h =
    rw (h i (omega arith) (omega arith), those-same (suc i) n t u (λ j a b. h j (omega arith) (omega arith))) refl

-- a list in which no number stands more often than in another is no longer
pub no_longer : (l r : List ℕ) → ((x : ℕ) → occurs x l ≤ occurs x r) → length l ≤ length r
no_longer [] r h = omega arith
no_longer (x ∷ l) r h =
    let k : Stands x r = stands x r (omega (arith, h x, one_same x)) in
    omega (
      arith,
      no_longer l (k.before ++ k.behind) (λ y. omega (arith, h y, ap (occurs y) k.whole, occurs-append y k.before (x ∷ k.behind), occurs-append y k.before k.behind)),
      ap length k.whole,
      length-append k.before (x ∷ k.behind),
      length-append k.before k.behind,
    )
