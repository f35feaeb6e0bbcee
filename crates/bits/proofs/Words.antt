-- The laws of a word and its bits, for any number of bits: three parts for callers, and a last one of what this crate's code computes.
-- Assumes nothing.
use Prim.Native.Nat.{ℕ, zero, suc, ◌+◌, ◌-◌, ◌*◌, ◌/◌, ◌%◌, ◌^◌, ◌≤◌, ◌<◌}
use mathlib.Core.Path.{◌≡◌, refl, sym, ap, ◌∙◌}
use mathlib.Core.Bool.{Bool, true, false}
use mathlib.Core.Logic.{◌≢◌, ⊎_elim}
use native.Mathlib.Omega.{arith}
use native.Mathlib.Nat.{pow-suc, one-mul, div-one, div-eq_of_lt, div-eq_of_lt-le, mod-eq_of_lt}
use native.Mathlib.Numerals.{add-one}
use lib.Bits.{bit_or, bit_and, and_step, or_step, or_zero_r, and_mask}
use lib.Count.{count_leading_zeros, leading_top, count_trailing_zeros, under}
use lib.Dec.{eqb}
use lib.Pow.{pow_mono, shl_exact, shr-shr}
use Rattle.std.specs.Prelude.{if◌then◌else◌}
use Rattle.lists.specs.Lists.{put, lowest}
use Rattle.std.proofs.lemmas.Bool.{cases_Bool, cases_eq}
use Rattle.lists.proofs.Laws.{le?, put_same, put_other, lowest-same}
use Rattle.bits.specs.Word.{bit, word, bits, highest}

-- ---- a word and its bits

pub bit_le : (b : Bool) → bit b ≤ 1
bit_le true = omega arith
bit_le false = omega arith

bool_bit : (b : Bool) → eqb (bit b) 1 ≡ b
bool_bit true = refl
bool_bit false = refl

bit_bool : (d : ℕ) → d < 2 → bit (eqb d 1) ≡ d
bit_bool zero h = refl
bit_bool (suc zero) h = refl
bit_bool (suc (suc d)) h = absurd (omega arith)

-- the lowest bit of a word, and the bits above it
low : (b : Bool) (m : ℕ) → (bit b + 2 * m) % 2 ≡ bit b
low b m = omega (arith, bit_le b)

high : (b : Bool) (m : ℕ) → (bit b + 2 * m) / 2 ≡ m
high b m = omega (arith, bit_le b)

bits_zero : (w : ℕ) → bits w 0 ≡ eqb (w % 2) 1
unfolding bits
bits_zero w = rw div-one

bits-suc : (w i : ℕ) → bits w (suc i) ≡ bits (w / 2) i
unfolding bits
bits-suc w i = let e : 1 + i ≡ suc i = omega arith in rw (shr-shr w 1 i, e)

-- a word fits its number of bits
pub word_below : (n : ℕ) (t : ℕ → Bool) → word n t < 2 ^ n
unfolding word
word_below zero t = omega arith
word_below (suc n) t = omega (arith, bit_le (t 0), pow-suc 2 n, word_below n (λ i. t (suc i)))

-- two tests that agree on the numbers below n have one word
pub word_same : (n : ℕ) (t u : ℕ → Bool) → ((i : ℕ) → i < n → t i ≡ u i) → word n t ≡ word n u
unfolding word
word_same zero t u h = refl
word_same (suc n) t u h = rw (h 0 (omega arith), word_same n (λ i. t (suc i)) (λ i. u (suc i)) (λ i b. h (suc i) (omega arith)))

-- the bits of a word are its test
pub bits-word : (n : ℕ) (t : ℕ → Bool) (i : ℕ) → i < n → bits (word n t) i ≡ t i
unfolding word
bits-word zero t i h = absurd (omega arith)
bits-word (suc n) t zero h = rw (bits_zero, low) (bool_bit (t 0))
bits-word (suc n) t (suc i) h = rw (bits-suc, high) (bits-word n (λ j. t (suc j)) i (omega arith))

-- a number that fits n bits is the word of its bits
pub word-bits : (n w : ℕ) → w < 2 ^ n → word n (bits w) ≡ w
unfolding word
word-bits zero w h = omega arith
word-bits (suc n) w h =
    let above = word_same n (λ i. bits w (suc i)) (bits (w / 2)) (λ i b. bits-suc w i) in
    rw (bits_zero, bit_bool (w % 2) (omega arith), above, word-bits n (w / 2) (omega (arith, pow-suc 2 n))) (omega arith)

-- one word has one test, on the numbers below n
pub word_injective : (n : ℕ) (t u : ℕ → Bool) → word n t ≡ word n u → (i : ℕ) → i < n → t i ≡ u i
word_injective n t u e i h = sym (bits-word n t i h) ∙ ap (λ (w : ℕ). bits w i) e ∙ bits-word n u i h

-- a number that fits n bits has none on from n up
pub bits_above : (n w i : ℕ) → w < 2 ^ n → n ≤ i → bits w i ≡ false
unfolding bits
bits_above n w i h b = let none : w / 2 ^ i ≡ 0 = div-eq_of_lt (omega (arith, pow_mono b)) in rw none

-- a word of n bits has none to put on or off from n up
pub word_past : (n : ℕ) (t : ℕ → Bool) (i : ℕ) (v : Bool) → n ≤ i → word n (put t i v) ≡ word n t
word_past n t i v h = word_same n (put t i v) t (λ j b. put_other t i v j (omega arith))

-- ---- the highest number that passes

-- the highest is known by passing where none above it does
pub highest_is : (n d c : ℕ) (t : ℕ → Bool) → c < n → t c ≡ true → ((i : ℕ) → c < i → i < n → t i ≡ false) → highest n d t ≡ c
unfolding highest
highest_is zero d c t h e f = absurd (omega arith)
highest_is (suc n) d c t h e f = ⊎_elim
    (λ (s : n ≡ c). rw (ap t s ∙ e) s)
    (λ (s : n ≢ c). rw (f n (omega arith) (omega arith)) (highest_is n d c t (omega arith) e (λ i a b. f i a (omega arith))))
    (cases_eq n c)

pub highest_none : (n d : ℕ) (t : ℕ → Bool) → ((i : ℕ) → i < n → t i ≡ false) → highest n d t ≡ d
unfolding highest
highest_none zero d t h = refl
highest_none (suc n) d t h = rw (h n (omega arith)) (highest_none n d t (λ i b. h i (omega arith)))

-- it passes, and none above it does
pub highest-on : (n d : ℕ) (t : ℕ → Bool) → highest n d t ≢ d → t (highest n d t) ≡ true
unfolding highest
highest-on zero d t r = absurd (r refl)
highest-on (suc n) d t r = ⊎_elim (λ e. rw e e) (λ e. rw e (highest-on n d t (rw e at r))) (cases_Bool (t n))

pub highest_off : (n d : ℕ) (t : ℕ → Bool) (i : ℕ) → highest n d t < i → i < n → t i ≡ false
unfolding highest
highest_off zero d t i a h = absurd (omega arith)
highest_off (suc n) d t i a h = ⊎_elim
    (λ e. absurd (omega (arith, rw e at a)))
    (λ e. ⊎_elim (λ (g : n ≤ i). let x : n ≡ i = omega arith in rw (← x) e) (λ (g : i < n). highest_off n d t i (rw e at a) g) (le? n i))
    (cases_Bool (t n))

pub highest-same : (n d : ℕ) (t u : ℕ → Bool) → ((i : ℕ) → i < n → t i ≡ u i) → highest n d t ≡ highest n d u
unfolding highest
highest-same zero d t u h = refl
highest-same (suc n) d t u h = rw (h n (omega arith), highest-same n d t u (λ i b. h i (omega arith)))

-- ---- a word that is known by its test: what put_bit (put), has_bit, lowest_bit and highest_bit answer of it

module _ (n : ℕ) (t : ℕ → Bool) {w : ℕ} (is : w ≡ word n t) where
  pub word_has : (i : ℕ) → i < n → bits w i ≡ t i
  word_has i h = rw is (bits-word n t i h)

  pub word_put : (i : ℕ) (v : Bool) → word n (put (bits w) i v) ≡ word n (put t i v)
  word_put i v = word_same n (put (bits w) i v) (put t i v) (λ j b. rw (word_has j b))

  pub word-lowest : lowest 0 n (bits w) ≡ lowest 0 n t
  word-lowest = lowest-same 0 n (bits w) t (λ i a b. word_has i (omega arith))

  pub word-highest : (d : ℕ) → highest n d (bits w) ≡ highest n d t
  word-highest d = highest-same n d (bits w) t word_has

-- ---- what the code computes

bits-top : (w i : ℕ) → 2 ^ i ≤ w → w < 2 ^ suc i → bits w i ≡ true
unfolding bits
bits-top w i l h = let one : w / 2 ^ i ≡ 1 = div-eq_of_lt-le (2 ^ i) (omega arith) (omega (arith, pow-suc 2 i)) in rw one

-- a bit is tested by shifting it down
pub bit_tested : (w i : ℕ) → eqb (bit_and (w / 2 ^ i) 1) 1 ≡ bits w i
unfolding bits
bit_tested w i = ap (λ (d : ℕ). eqb d 1) (and_mask (w / 2 ^ i) 1)

-- a lone bit is shifted to its place
shifted : (n i : ℕ) → i < n → 1 * 2 ^ i % 2 ^ n ≡ 2 ^ i
shifted n i h = shl_exact 1 i n (omega arith) (omega arith) ∙ one-mul (2 ^ i)

double : (i : ℕ) → (2 ^ suc i / 2 ≡ 2 ^ i) × (2 ^ suc i % 2 ≡ 0)
double i = let e = pow-suc 2 i in (omega arith, omega arith)

-- u is t with i on
or_on : (n i : ℕ) (t u : ℕ → Bool) → i < n → u i ≡ true → ((j : ℕ) → j ≢ i → u j ≡ t j) → bit_or (word n t) (2 ^ i) ≡ word n u
unfolding word
or_on zero i t u h on rest = absurd (omega arith)
or_on (suc n) zero t u h on rest =
    let above = word_same n (λ j. u (suc j)) (λ j. t (suc j)) (λ j b. rest (suc j) (omega arith)) in
    rw (or_step, on, above, high, low, or_zero_r) (omega (arith, bit_le (t 0)))
or_on (suc n) (suc i) t u h on rest =
    let above = or_on n i (λ j. t (suc j)) (λ j. u (suc j)) (omega arith) on (λ j d. rest (suc j) (omega arith)) in
    rw (or_step, rest 0 (omega arith), high, low, (double i).0, (double i).1, above) (omega (arith, bit_le (t 0)))

-- u is t with i off
and_off : (n i : ℕ) (t u : ℕ → Bool) → i < n → u i ≡ false → ((j : ℕ) → j ≢ i → u j ≡ t j) → bit_and (word n t) (2 ^ n - 1 - 2 ^ i) ≡ word n u
unfolding word
and_off zero i t u h off rest = absurd (omega arith)
and_off (suc n) zero t u h off rest =
    let same = word_same n (λ j. u (suc j)) (λ j. t (suc j)) (λ j b. rest (suc j) (omega arith)) in
    let mask : ((2 ^ suc n - 1 - 1) / 2 ≡ 2 ^ n - 1) × ((2 ^ suc n - 1 - 1) % 2 ≡ 0) = (omega (arith, pow-suc 2 n), omega (arith, pow-suc 2 n)) in
    let above : bit_and (word n (λ j. t (suc j))) (2 ^ n - 1) ≡ word n (λ j. t (suc j)) =
    and_mask (word n (λ j. t (suc j))) n ∙ mod-eq_of_lt (word_below n (λ j. t (suc j))) in
    rw (and_step, off, same, high, low, mask.0, mask.1, above) (omega arith)
and_off (suc n) (suc i) t u h off rest =
    let below : 2 ^ suc i ≤ 2 ^ n = pow_mono (omega arith) in
    let some : 1 ≤ 2 ^ i = pow_mono {i = 0} {j = i} (omega arith) in
    let mask : ((2 ^ suc n - 1 - 2 ^ suc i) / 2 ≡ 2 ^ n - 1 - 2 ^ i) × ((2 ^ suc n - 1 - 2 ^ suc i) % 2 ≡ 1) =
    (omega (arith, below, pow-suc 2 n, pow-suc 2 i), omega (arith, below, pow-suc 2 n, pow-suc 2 i)) in
    let above = and_off n i (λ j. t (suc j)) (λ j. u (suc j)) (omega arith) off (λ j d. rest (suc j) (omega arith)) in
    rw (and_step, rest 0 (omega arith), high, low, mask.0, mask.1, above) (omega (arith, bit_le (t 0)))

module _ (n w i : ℕ) (fits : w < 2 ^ n) where
  pub put_past : (v : Bool) → n ≤ i → w ≡ word n (put (bits w) i v)
  put_past v h = sym (word_past n (bits w) i v h ∙ word-bits n w fits)

  pub bit-set : i < n → bit_or w (1 * 2 ^ i % 2 ^ n) ≡ word n (put (bits w) i true)
  bit-set h =
      let e = or_on n i (bits w) (put (bits w) i true) h (put_same (bits w) i true) (put_other (bits w) i true) in
      rw (shifted n i h) (rw (word-bits n w fits) at e)

  pub bit-cleared : i < n → bit_and w (2 ^ n - 1 - 1 * 2 ^ i % 2 ^ n) ≡ word n (put (bits w) i false)
  bit-cleared h =
      let e = and_off n i (bits w) (put (bits w) i false) h (put_same (bits w) i false) (put_other (bits w) i false) in
      rw (shifted n i h) (rw (word-bits n w fits) at e)

lowest_from : (n i w : ℕ) → i + count_trailing_zeros n (w / 2 ^ i) ≡ lowest i n (bits w)
unfolding count_trailing_zeros lowest bits
lowest_from zero i w = omega arith
lowest_from (suc n) i w = rw (shr-shr w i 1, add-one) (go (w / 2 ^ i % 2) _ (omega arith) (lowest_from n (suc i) w))
  where
    go : (d z : ℕ) {l : ℕ} → d < 2 → suc i + z ≡ l → i + under d z ≡ (if eqb d 1 then i else l)
    go zero z h e = omega arith
    go (suc zero) z h e = omega arith
    go (suc (suc d)) z h e = absurd (omega arith)

-- the zeros below the lowest bit that is on are as many as its number
pub trailing_lowest : (n w : ℕ) → count_trailing_zeros n w ≡ lowest 0 n (bits w)
trailing_lowest n w = omega (arith, rw div-one at (lowest_from n 0 w))

-- a power of 2 that is in w once is that of the highest bit that is on
pub highest_power : (n d k w : ℕ) → k < n → 2 ^ k ≤ w → w < 2 ^ suc k → highest n d (bits w) ≡ k
highest_power n d k w h l u = highest_is n d k (bits w) h (bits-top w k l u) (λ i a b. bits_above (suc k) w i u a)

-- the zeros above the highest bit that is on, that bit and those below it make n
pub leading_highest : (n d w : ℕ) → 0 < w → w < 2 ^ n → count_leading_zeros n w + suc (highest n d (bits w)) ≡ n
leading_highest n d w p h =
    let t = leading_top n w p h in
    let e = highest_is n d t.0 (bits w) (omega (arith, t.1)) (bits-top w t.0 t.2 t.3) (λ i a b. bits_above (suc t.0) w i t.3 a) in
    omega (arith, t.1)
