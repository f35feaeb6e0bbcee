-- The lowest free buffers: which they are, and how they are drawn one after another.
-- Assumes nothing.
use Prim.Native.Nat.{ℕ, zero, suc, ◌+◌, ◌-◌, ◌≤◌, ◌<◌}
use mathlib.Core.Path.{◌≡◌, refl, sym, ap, ◌∙◌, subst}
use mathlib.Core.Bool.{Bool, true, false}
use mathlib.Core.Logic.{◌≢◌, ⊎_elim}
use mathlib.Core.List.{List, [], ◌∷◌}
use native.Mathlib.Omega.{arith}
use lib.ListN.{get_or, take}
use borrow.Author.Tests.{eq-eqb, ne_eqb}
use Rattle.std.specs.Prelude.{if◌then◌else◌}
use Rattle.std.proofs.Math.Seq.{take-nil}
use Rattle.lists.specs.Lists.{put, lowest, those}
use Rattle.std.proofs.lemmas.Bool.{cases_Bool, cases_eq}
use Rattle.lists.proofs.Laws.{put_other, lowest-passes}
use Rattle.lists.proofs.Those.{those-same}
use Rattle.bits.specs.Word.{word, bits, width}
use Rattle.bits.proofs.Words.{word_has}
use Rattle.chains.specs.Links.{lows}

-- those of a word that is known by its test
pub word-lows : (n : ℕ) (f : ℕ → Bool) {w : ℕ} → w ≡ word width f → lows n (bits w) ≡ lows n f
word-lows n f {w} is = ap (take n) (those-same 0 width (bits w) f (λ p a h. word_has width f is p h))

-- ---- the lowest of those that pass a test, and the others

pub lowest-le : (i n : ℕ) (t : ℕ → Bool) → lowest i n t ≤ i + n
lowest-le i n t = ⊎_elim (λ (e : lowest i n t ≡ i + n). omega arith) (λ d. omega (arith, (lowest-passes i n t d).1)) (cases_eq (lowest i n t) (i + n))

pub those_none : (i n : ℕ) (t : ℕ → Bool) → i + n ≤ lowest i n t → those i n t ≡ []
unfolding those lowest
those_none i zero t h = refl
those_none i (suc n) t h = go (t i) (λ k. those_none (suc i) n t k) h
  where
    go : (v : Bool) → (suc i + n ≤ lowest (suc i) n t → those (suc i) n t ≡ []) → i + suc n ≤ (if v then i else lowest (suc i) n t) → (if v then i ∷ those (suc i) n t else those (suc i) n t) ≡ []
    go true f k = absurd (omega arith)
    go false f k = f (omega arith)

pub those-lowest : (i n : ℕ) (t : ℕ → Bool) → lowest i n t < i + n → those i n t ≡ lowest i n t ∷ those i n (put t (lowest i n t) false)
unfolding those lowest
those-lowest i zero t h = absurd (omega arith)
those-lowest i (suc n) t h = ⊎_elim
    (λ (e : t i ≡ true). rw (e, eq-eqb i i refl) (ap (λ (l : List ℕ). i ∷ l) (those-same (suc i) n t (put t i false) (λ j k m. sym (put_other t i false j (λ d. omega arith))))))
    (λ (e : t i ≡ false).
    let k : lowest (suc i) n t < suc i + n = omega (arith, subst (λ (v : Bool). (if v then i else lowest (suc i) n t) < i + suc n) e h) in
    let m : ℕ = lowest (suc i) n t in
    let d : i ≢ m = λ q. omega (arith, (lowest-passes (suc i) n t (λ r. omega arith)).0) in
    rw (e, ne_eqb i m d) (those-lowest (suc i) n t k))
    (cases_Bool (t i))

-- ---- drawn one after another

module _ (s left : ℕ) where
  pub lows_out : width ≤ lowest 0 width (bits s) → lows left (bits s) ≡ []
  lows_out h = ap (take left) (those_none 0 width (bits s) h) ∙ take-nil left

  pub lows-first : 0 < left → lowest 0 width (bits s) < width → (d : ℕ) → get_or (lows left (bits s)) 0 d ≡ lowest 0 width (bits s)
  lows-first z h d = ap (λ (l : List ℕ). get_or (take left l) 0 d) (those-lowest 0 width (bits s) h) ∙ head left z _ _
    where
      head : (n : ℕ) → 0 < n → (x : ℕ) (l : List ℕ) → get_or (take n (x ∷ l)) 0 d ≡ x
      head zero k x l = absurd (omega arith)
      head (suc n) k x l = refl

  pub lows-on : 0 < left → (b rest : ℕ) → b ≡ lowest 0 width (bits s) → b < width → rest ≡ word width (put (bits s) b false)
      → lows left (bits s) ≡ b ∷ lows (left - 1) (bits rest)
  lows-on z b rest e h r =
      subst (λ (x : ℕ). lows left (bits s) ≡ x ∷ lows (left - 1) (put (bits s) x false)) (sym e) (ap (take left) (those-lowest 0 width (bits s) (omega arith)) ∙ tail left z _ _)
      ∙ ap (λ (l : List ℕ). b ∷ l) (sym (word-lows (left - 1) (put (bits s) b false) r))
    where
      tail : (n : ℕ) → 0 < n → (x : ℕ) (l : List ℕ) → take n (x ∷ l) ≡ x ∷ take (n - 1) l
      tail zero k x l = absurd (omega arith)
      tail (suc n) k x l = let e : suc n - 1 ≡ n = omega arith in rw e
