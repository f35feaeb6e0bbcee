-- Buffers taken and given back one at a time: what one turn makes of the links and of the free ones, the whole makes.
-- Assumes nothing.
use Prim.Native.Nat.{ℕ, zero, suc, ◌+◌, ◌-◌, ◌^◌, ◌≤◌, ◌<◌}
use mathlib.Core.Path.{◌≡◌, refl, sym, ap, ◌∙◌}
use mathlib.Core.Bool.{true, false, not, true≢false}
use mathlib.Core.Logic.{◌≢◌, ◌⊎◌, ⊎_elim}
use mathlib.Core.List.{List, [], ◌∷◌}
use native.Mathlib.Omega.{arith}
use lib.ListN.{get_or, set}
use lib.Dec.{eqb}
use borrow.Author.Tests.{ne_eqb}
use Rattle.lists.specs.Lists.{put, someone, lowest}
use Rattle.std.proofs.lemmas.Bool.{cases_Bool, cases_eq}
use Rattle.lists.proofs.Laws.{le?, lowest_none, lowest_most}
use Rattle.bits.specs.Word.{bit, word, bits, width}
use Rattle.chains.specs.Led.{after}
use Rattle.chains.specs.Links.{run, lows, link_up, alone, removed, added}
use Rattle.chains.proofs.Bits.{on_below, word_zero, zero_off}
use Rattle.chains.proofs.Words.{word_on}
use Rattle.chains.proofs.Lows.{lows_out, lows-first, lows-on}

-- ---- whether one is still to be drawn

pub any_is : (s left : ℕ) → s < 2 ^ width → left ≢ 0 → not (eqb s 0) ≡ someone (lows left (bits s))
any_is s left h z = ⊎_elim
    (λ (e : s ≡ 0). rw e (sym (ap someone (lows_out 0 left (omega (arith, lowest_none 0 width (bits 0) (λ j a b. zero_off j)))))))
    (λ (d : s ≢ 0). rw (ne_eqb s 0 d) (sym (ap someone (lows-on s left (omega arith) (lowest 0 width (bits s)) _ refl (low d) refl))))
    (cases_eq s 0)
  where
    low : s ≢ 0 → lowest 0 width (bits s) < width
    low d = ⊎_elim (λ (k : width ≤ lowest 0 width (bits s)). absurd (d (word_zero width s h (λ p. off k p (cases_Bool (bits s p)))))) (λ k. k) (le? width (lowest 0 width (bits s)))
      where
        off : width ≤ lowest 0 width (bits s) → (p : ℕ) → (bits s p ≡ true) ⊎ (bits s p ≡ false) → bit (bits s p) ≡ 0
        off k p = ⊎_elim (λ (e : bits s p ≡ true). absurd (omega (arith, on_below width s p h e, lowest_most 0 width p (bits s) (omega arith) (on_below width s p h e) e))) (λ (e : bits s p ≡ false). ap bit e)

module _ (s left : ℕ) (any : someone (lows left (bits s)) ≡ true) where
  any_left : 0 < left
  any_left = go left any
    where
      go : (n : ℕ) → someone (lows n (bits s)) ≡ true → 0 < n
      go zero e = absurd (true≢false (sym e))
      go (suc n) e = omega arith

  pub any_low : lowest 0 width (bits s) < width
  any_low = ⊎_elim (λ h. absurd (true≢false (sym any ∙ ap someone (lows_out s left h)))) (λ h. h) (le? width (lowest 0 width (bits s)))

  pub any_first : (d : ℕ) → lowest 0 width (bits s) ≡ get_or (lows left (bits s)) 0 d
  any_first d = sym (lows-first s left any_left any_low d)

  -- ---- one is drawn: b, and `rest` are the others

  module _ (b rest : ℕ) (e : b ≡ lowest 0 width (bits s)) (r : rest ≡ word width (put (bits s) b false)) where
    drawn : lows left (bits s) ≡ b ∷ lows (left - 1) (bits rest)
    drawn = lows-on s left any_left b rest e (omega (arith, any_low)) r

    pub take-links : (t u : List ℕ) (y : ℕ) → y ≡ get_or (lows (left - 1) (bits rest)) 0 b → u ≡ set t b y → link_up u (lows (left - 1) (bits rest)) ≡ link_up t (lows left (bits s))
    unfolding link_up
    take-links t u y ey eu = ap (λ (v : List ℕ). link_up v (lows (left - 1) (bits rest))) (eu ∙ ap (set t b) ey) ∙ sym (ap (link_up t) drawn)

    pub take-word : word width (removed (bits rest) (lows (left - 1) (bits rest))) ≡ word width (removed (bits s) (lows left (bits s)))
    take-word = word_on s rest b false r (lows (left - 1) (bits rest)) ∙ sym (ap (λ (l : List ℕ). word width (removed (bits s) l)) drawn)

pub links_end : (t : List ℕ) {l : List ℕ} → l ≡ [] → link_up t l ≡ t
unfolding link_up
links_end t e = rw e

-- ---- one is given back: x, and y comes after it

module _ (t : List ℕ) (n i x : ℕ) (z : i < n) (y : ℕ) (ey : y ≡ after t x) where
  ran : run t (n - i) x ≡ x ∷ run t (n - (i + 1)) y
  unfolding run
  ran =
      let e : n - i ≡ suc (n - (i + 1)) = omega arith in
      rw (e, run, ey)

  pub give-links : (u v : List ℕ) → v ≡ set u x x → alone v (run t (n - (i + 1)) y) ≡ alone u (run t (n - i) x)
  unfolding alone
  give-links u v e = ap (λ (w : List ℕ). alone w (run t (n - (i + 1)) y)) e ∙ sym (ap (alone u) ran)

  pub give-word : (s r : ℕ) → r ≡ word width (put (bits s) x true) → word width (added (bits r) (run t (n - (i + 1)) y)) ≡ word width (added (bits s) (run t (n - i) x))
  give-word s r e = word_on s r x true e (run t (n - (i + 1)) y) ∙ sym (ap (λ (l : List ℕ). word width (added (bits s) l)) ran)

pub run_end : (t : List ℕ) (n i x : ℕ) → n ≤ i → run t (n - i) x ≡ []
unfolding run
run_end t n i x h = let e : n - i ≡ 0 = omega arith in rw e

pub alone_end : (t : List ℕ) {l : List ℕ} → l ≡ [] → alone t l ≡ t
unfolding alone
alone_end t e = rw e
