-- Words of buffers as buffers are put on and off in a row.
-- Assumes nothing.
use Prim.Native.Nat.{ℕ, ◌^◌, ◌≤◌, ◌<◌}
use mathlib.Core.Path.{◌≡◌, refl, sym, ◌∙◌, subst}
use mathlib.Core.Bool.{Bool}
use mathlib.Core.Logic.{⊎_elim}
use mathlib.Core.List.{List, [], ◌∷◌}
use native.Mathlib.Omega.{arith}
use borrow.Author.Tests.{lt-ltb, le-ltb}
use Rattle.lists.specs.Lists.{put, one, occurs}
use Rattle.lists.proofs.Laws.{le?, put_cases, one_same, one_other}
use Rattle.bits.specs.Word.{word, bits, width}
use Rattle.bits.proofs.Words.{word_below, word_same, word-bits, word_has}
use Rattle.chains.specs.Links.{puts}

module _ (f : ℕ → Bool) (l : List ℕ) (v : Bool) (p : ℕ) where
  pub puts_in : 1 ≤ occurs p l → puts f l v p ≡ v
  unfolding puts
  puts_in o = rw (lt-ltb 0 (occurs p l) (omega arith))

  pub puts_out : occurs p l ≡ 0 → puts f l v p ≡ f p
  unfolding puts
  puts_out o = rw (le-ltb 0 (occurs p l) (omega arith))

  -- x among the others, or put first
  pub puts-on : (x : ℕ) → puts (put f x v) l v p ≡ puts f (x ∷ l) v p
  unfolding puts
  puts-on x = ⊎_elim
      (λ (o : 1 ≤ occurs p l). rw (lt-ltb 0 (occurs p l) (omega arith), lt-ltb 0 (occurs p (x ∷ l)) (omega arith)))
      (λ (z : occurs p l < 1). rw (le-ltb 0 (occurs p l) (omega arith)) (put_cases (λ (w : Bool). w ≡ puts f (x ∷ l) v p) f x v p
      (λ e. rw (lt-ltb 0 (occurs p (x ∷ l)) (omega (arith, subst (λ (y : ℕ). one y p ≡ 1) e (one_same p)))))
      (λ d. rw (le-ltb 0 (occurs p (x ∷ l)) (omega (arith, one_other x p (λ e. d (sym e))))))))
      (le? 1 (occurs p l))

-- a word that is known by its test
pub word-puts : (f : ℕ → Bool) {w : ℕ} → w ≡ word width f → (l : List ℕ) (v : Bool) → word width (puts (bits w) l v) ≡ word width (puts f l v)
unfolding puts
word-puts f {w} is l v = word_same width (puts (bits w) l v) (puts f l v) (λ p h. rw (word_has width f is p h))

-- nothing is put
pub word_none : (w : ℕ) → w < 2 ^ width → (v : Bool) → word width (puts (bits w) [] v) ≡ w
word_none w h v = word_same width (puts (bits w) [] v) (bits w) (λ p k. puts_out (bits w) [] v p refl) ∙ word-bits width w h

-- x is put, and then the others
pub word_on : (w r x : ℕ) (v : Bool) → r ≡ word width (put (bits w) x v) → (l : List ℕ) → word width (puts (bits r) l v) ≡ word width (puts (bits w) (x ∷ l) v)
word_on w r x v e l = word-puts (put (bits w) x v) e l v ∙ word_same width (puts (put (bits w) x v) l v) (puts (bits w) (x ∷ l) v) (λ p h. puts-on (bits w) l v p x)

-- a word that was put fits
pub word_fits : {w : ℕ} (f : ℕ → Bool) → w ≡ word width f → w < 2 ^ width
word_fits f e = subst (λ (z : ℕ). z < 2 ^ width) (sym e) (word_below width f)
