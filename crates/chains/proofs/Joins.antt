-- Messages that lie in queues and hands by their first buffers: their buffers, counted one by one, are those that are not free.
-- Assumes nothing.
use Prim.Native.Nat.{ℕ, zero, suc, ◌+◌, ◌≤◌, ◌<◌}
use mathlib.Core.Path.{◌≡◌, refl, sym, ap, ◌∙◌, subst}
use mathlib.Core.Logic.{◌≢◌, ⊎_elim}
use mathlib.Core.List.{List, [], ◌∷◌, ◌++◌}
use native.Mathlib.Omega.{arith}
use Rattle.lists.specs.Lists.{put, one, occurs, total, someone}
use Rattle.std.proofs.lemmas.Bool.{cases_eq}
use Rattle.lists.proofs.Laws.{le?, put_same, put_other, one_same, one_other, occurs-append, total_zero, total_change}
use Rattle.bits.specs.Word.{bit, width}
use Rattle.bits.proofs.Words.{bit_le}
use Rattle.chains.specs.Chained.{spread}

-- the sum of g along a list
abbrev along : List ℕ → (ℕ → ℕ) → ℕ
along [] g = 0
along (b ∷ l) g = g b + along l g

spread-along : (p : ℕ) (f : ℕ → List ℕ) (l : List ℕ) → occurs p (spread f l) ≡ along l (λ b. occurs p (f b))
spread-along p f [] = refl
spread-along p f (b ∷ l) = omega (arith, occurs-append p (f b) (spread f l), spread-along p f l)

along-append : (l r : List ℕ) (g : ℕ → ℕ) → along (l ++ r) g ≡ along l g + along r g
along-append [] r g = omega arith
along-append (b ∷ l) r g = omega (arith, along-append l r g)

along_other : (l : List ℕ) (g : ℕ → ℕ) (b : ℕ) → occurs b l ≡ 0 → along l (put g b 0) ≡ along l g
along_other [] g b o = refl
along_other (x ∷ l) g b o =
    omega (arith, put_other g b 0 x (λ e. omega (arith, subst (λ (z : ℕ). one x z ≡ 1) e (one_same x))), along_other l g b (omega arith))

-- a list in which each number below n stands once, unless g is 0 there
along-total : (n : ℕ) (l : List ℕ) (g : ℕ → ℕ) → ((b : ℕ) → occurs b l ≤ 1) → ((b : ℕ) → 1 ≤ occurs b l → b < n) → ((b : ℕ) → b < n → occurs b l ≡ 0 → g b ≡ 0)
    → along l g ≡ total n g
along-total n [] g h k z = sym (total_zero n g (λ b i. z b i refl))
along-total n (x ∷ l) g h k z =
    let i : x < n = k x (omega (arith, one_same x)) in
    let o : occurs x l ≡ 0 = omega (arith, h x, one_same x) in
    let r = along-total n l (put g x 0) (λ b. omega (arith, h b)) (λ b e. k b (omega arith))
    (λ b j e. ⊎_elim (λ (d : b ≡ x). subst (λ (y : ℕ). put g x 0 y ≡ 0) (sym d) (put_same g x 0)) (λ (d : b ≢ x). put_other g x 0 b d ∙ z b j (omega (arith, one_other x b (λ q. d (sym q))))) (cases_eq b x)) in
    omega (arith, r, along_other l g x o, total_change n g (put g x 0) x i (λ j d. put_other g x 0 j d), put_same g x 0)

-- all lists below m, one behind the other
abbrev whole : ℕ → (ℕ → List ℕ) → List ℕ
whole zero q = []
whole (suc m) q = q m ++ whole m q

whole-occurs : (m : ℕ) (q : ℕ → List ℕ) (b : ℕ) → occurs b (whole m q) ≡ total m (λ i. occurs b (q i))
unfolding total
whole-occurs zero q b = refl
whole-occurs (suc m) q b = omega (arith, occurs-append b (q m) (whole m q), whole-occurs m q b)

whole-along : (m : ℕ) (q f : ℕ → List ℕ) (p : ℕ) → along (whole m q) (λ b. occurs p (f b)) ≡ total m (λ i. occurs p (spread f (q i)))
unfolding total
whole-along zero q f p = refl
whole-along (suc m) q f p = omega (arith, along-append (q m) (whole m q) (λ b. occurs p (f b)), whole-along m q f p, spread-along p f (q m))

-- each first buffer stands once, in a mailbox or in a hand: then the buffers of all messages are those of all lists
pub joined : (f : ℕ → List ℕ) → ((b : ℕ) → width ≤ b → f b ≡ []) → (m k : ℕ) (box hand : ℕ → List ℕ)
    → ((b : ℕ) → total m (λ i. occurs b (box i)) + total k (λ i. occurs b (hand i)) ≡ bit (someone (f b)))
    → (p : ℕ) → total m (λ i. occurs p (spread f (box i))) + total k (λ i. occurs p (spread f (hand i))) ≡ total width (λ b. occurs p (f b))
joined f beyond m k box hand h p =
    let l : List ℕ = whole m box ++ whole k hand in
    let c : (b : ℕ) → occurs b l ≡ bit (someone (f b)) = λ b. omega (arith, h b, occurs-append b (whole m box) (whole k hand), whole-occurs m box b, whole-occurs k hand b) in
    let e = along-total width l (λ b. occurs p (f b)) (λ b. omega (arith, c b, bit_le (someone (f b))))
    (λ b o. ⊎_elim (λ (i : width ≤ b). absurd (omega (arith, c b, ap (λ (r : List ℕ). bit (someone r)) (beyond b i)))) (λ (i : b < width). i) (le? width b))
    (λ b i z. none (f b) (sym (c b) ∙ z)) in
    omega (arith, e, along-append (whole m box) (whole k hand) (λ b. occurs p (f b)), whole-along m box f p, whole-along k hand f p)
  where
    none : (r : List ℕ) → bit (someone r) ≡ 0 → occurs p r ≡ 0
    none [] e = refl
    none (x ∷ r) e = absurd (omega arith)
