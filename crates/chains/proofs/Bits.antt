-- Words bit by bit, as the code reads and counts them.
-- Assumes nothing.
use Prim.Native.Nat.{ℕ, zero, suc, ◌+◌, ◌-◌, ◌*◌, ◌/◌, ◌%◌, ◌^◌, ◌≤◌, ◌<◌}
use mathlib.Core.Path.{◌≡◌, refl, sym, ap, ◌∙◌}
use mathlib.Core.Bool.{Bool, true, false, not, true≢false}
use mathlib.Core.Logic.{⊎_elim}
use mathlib.Core.List.{List, ◌∷◌}
use native.Mathlib.Omega.{arith}
use native.Mathlib.Nat.{pow-suc, div-one}
use native.Mathlib.Numerals.{add-one}
use lib.Count.{ones, ones_step}
use lib.Bits.{bit_and, and_high}
use lib.Pow.{shr-shr, field, mod-mod-pow, shl_exact, pow_pos}
use lib.ListN.{length}
use lib.Dec.{eqb}
use borrow.Author.Tests.{lt-ltb, le-ltb, ne_eqb}
use Rattle.std.specs.Prelude.{if◌then◌else◌}
use Rattle.lists.specs.Lists.{put, those}
use Rattle.lists.proofs.Laws.{le?, put_other}
use Rattle.bits.specs.Word.{bit, word, bits, width}
use Rattle.bits.proofs.Words.{word_below, word_same, word-bits, bits-word, bits_above}
use Rattle.chains.specs.Chained.{used}

-- ---- bits of a word that was put, of the others, of none

pub on_below : (n w i : ℕ) → w < 2 ^ n → bits w i ≡ true → i < n
on_below n w i h e = ⊎_elim (λ u. absurd (true≢false (sym e ∙ bits_above n w i h u))) (λ u. u) (le? n i)

-- the bits of a word that is known by a put
pub put_bits : (n w r i : ℕ) (v : Bool) → w < 2 ^ n → i < n → r ≡ word n (put (bits w) i v) → (p : ℕ) → bits r p ≡ put (bits w) i v p
put_bits n w r i v h k e p = ⊎_elim
    (λ (u : n ≤ p). rw e (bits_above n (word n (put (bits w) i v)) p (word_below n (put (bits w) i v)) u ∙ sym (put_other (bits w) i v p (λ d. omega arith) ∙ bits_above n w p h u)))
    (λ (u : p < n). rw e (bits-word n (put (bits w) i v) p u))
    (le? n p)

word_not : (n : ℕ) (t : ℕ → Bool) → word n t + word n (λ i. not (t i)) + 1 ≡ 2 ^ n
unfolding word
word_not zero t = refl
word_not (suc n) t = go (t 0) (word_not n (λ i. t (suc i)))
  where
    go : (b : Bool) → word n (λ i. t (suc i)) + word n (λ i. not (t (suc i))) + 1 ≡ 2 ^ n → bit b + 2 * word n (λ i. t (suc i)) + (bit (not b) + 2 * word n (λ i. not (t (suc i)))) + 1 ≡ 2 ^ suc n
    go true e = omega (arith, pow-suc 2 n)
    go false e = omega (arith, pow-suc 2 n)

pub taken_bits : (w : ℕ) → w < 2 ^ width → (p : ℕ) → bits (4294967295 - w) p ≡ used (bits w) p
taken_bits w h p =
    let t : ℕ → Bool = λ i. not (bits w i) in
    let e : 4294967295 - w ≡ word width t = omega (arith, word_not width (bits w), word-bits width w h) in
    ⊎_elim
    (λ (u : width ≤ p). rw (e, le-ltb p width u) (bits_above width (word width t) p (word_below width t) u))
    (λ (u : p < width). rw (e, lt-ltb p width u) (bits-word width t p u))
    (le? width p)

none_on : (n : ℕ) → word n (λ i. false) ≡ 0
unfolding word
none_on zero = refl
none_on (suc n) = omega (arith, none_on n)

pub zero_off : (p : ℕ) → bits 0 p ≡ false
zero_off p = bits_above 0 0 p (omega arith) (omega arith)

-- a word with no bit on is 0
pub word_zero : (n w : ℕ) → w < 2 ^ n → ((p : ℕ) → bit (bits w p) ≡ 0) → w ≡ 0
word_zero n w h z = sym (word-bits n w h) ∙ word_same n (bits w) (λ i. false) (λ i b. off (bits w i) (z i)) ∙ none_on n
  where
    off : (v : Bool) → bit v ≡ 0 → v ≡ false
    off true e = absurd (omega arith)
    off false e = refl

-- ---- how many are on

ones_from : (n i w : ℕ) → w / 2 ^ i < 2 ^ n → ones (w / 2 ^ i) ≡ length (those i n (bits w))
unfolding ones those bits
ones_from zero i w h = let z : w / 2 ^ i ≡ 0 = omega arith in rw z
ones_from (suc n) i w h =
    let e : w / 2 ^ i / 2 ≡ w / 2 ^ suc i = shr-shr w i 1 ∙ ap (λ (k : ℕ). w / 2 ^ k) (add-one i) in
    ones_step (w / 2 ^ i) ∙ go (w / 2 ^ i % 2) (ones (w / 2 ^ i / 2)) _ (omega arith) (ap ones e ∙ ones_from n (suc i) w (omega (arith, e, pow-suc 2 n)))
  where
    go : (d z : ℕ) (l : List ℕ) → d < 2 → z ≡ length l → d + z ≡ length (if eqb d 1 then i ∷ l else l)
    go zero z l h e = omega arith
    go (suc zero) z l h e = omega arith
    go (suc (suc d)) z l h e = absurd (omega arith)

pub ones-those : (n w : ℕ) → w < 2 ^ n → ones w ≡ length (those 0 n (bits w))
ones-those n w h = rw div-one at (ones_from n 0 w (rw div-one h))

-- ---- a bit in its byte

bits_low : (j i x : ℕ) → bits (x % 2 ^ (suc j + i)) i ≡ bits x i
unfolding bits
bits_low j i x =
    let e : suc j ≡ j + 1 = omega arith in
    ap (λ (d : ℕ). eqb (d % 2) 1) (field x (suc j) i ∙ ap (λ (k : ℕ). x / 2 ^ i % 2 ^ k) e) ∙ ap (λ (d : ℕ). eqb d 1) (mod-mod-pow (x / 2 ^ i) j 1)

bits_up : (x k i : ℕ) → bits (x / 2 ^ k) i ≡ bits x (k + i)
unfolding bits
bits_up x k i = ap (λ (d : ℕ). eqb (d % 2) 1) (shr-shr x k i)

-- bit b of a word of 32 is bit b % 8 of byte b / 8
pub byte-bit : (w b : ℕ) → b < width → bits (w / 2 ^ (8 * (b / 8 % 4)) % 2 ^ 8) (b % 8) ≡ bits w b
byte-bit w b h =
    let x : ℕ = w / 2 ^ (8 * (b / 8 % 4)) in
    let e : 8 ≡ suc (7 - b % 8) + b % 8 = omega arith in
    ap (λ (k : ℕ). bits (x % 2 ^ k) (b % 8)) e ∙ bits_low (7 - b % 8) (b % 8) x ∙ bits_up w (8 * (b / 8 % 4)) (b % 8) ∙ ap (bits w) (omega arith)

-- a bit is tested by a mask
pub mask_tested : (n x i : ℕ) → i < n → not (eqb (bit_and x (1 * 2 ^ i % 2 ^ n)) 0) ≡ bits x i
unfolding bits
mask_tested n x i h =
    let e : 1 + i ≡ suc i = omega arith in
    let m : 1 * 2 ^ i % 2 ^ n ≡ 2 ^ (1 + i) - 2 ^ i = shl_exact 1 i n (omega arith) (omega arith) ∙ omega (arith, pow-suc 2 i, ap (λ (k : ℕ). 2 ^ k) e) in
    ap (λ (k : ℕ). not (eqb (bit_and x k) 0)) m ∙ ap (λ (d : ℕ). not (eqb d 0)) (and_high x 1 i) ∙ go (x / 2 ^ i % 2) (2 ^ i) (omega arith) (pow_pos i)
  where
    go : (d z : ℕ) → d < 2 → 0 < z → not (eqb (d * z) 0) ≡ eqb d 1
    go zero z a b = let e : 0 * z ≡ 0 = omega arith in rw e
    go (suc zero) z a b = rw (ne_eqb (1 * z) 0 (λ e. omega arith))
    go (suc (suc d)) z a b = absurd (omega arith)
