-- The places of a message's bytes: in its own buffers, and in the store.
-- Assumes nothing.
use Prim.Native.Nat.{ℕ, zero, suc, ◌+◌, ◌-◌, ◌*◌, ◌/◌, ◌%◌, ◌≤◌, ◌<◌}
use mathlib.Core.List.{List, [], ◌∷◌}
use mathlib.Core.Logic.{◌≢◌, ⊎_elim}
use mathlib.Core.Path.{◌≡◌, refl, sym, ◌∙◌, subst}
use native.Mathlib.Omega.{arith}
use lib.ListN.{length, get_or}
use Rattle.std.proofs.lemmas.Bool.{cases_eq}
use Rattle.lists.proofs.Laws.{le?, one_same, one_other}
use Rattle.lists.specs.Lists.{occurs}
use Rattle.plain.specs.Sizes.{buffers, buffer_size, store_size}
use Rattle.promise.specs.Pages.{place}

-- a list of buffers
abbrev pub AreBuffers : List ℕ → Type 0
AreBuffers l = (j : ℕ) → buffers ≤ j → occurs j l ≡ 0

pub first_is : (x : ℕ) (l : List ℕ) → AreBuffers (x ∷ l) → x < buffers
first_is x l r = ⊎_elim (λ (z : buffers ≤ x). absurd (omega (arith, r x z, one_same x))) (λ z. z) (le? buffers x)

pub rest_are : (x : ℕ) (l : List ℕ) → AreBuffers (x ∷ l) → AreBuffers l
rest_are x l r j h = omega (arith, r j h)

-- where buffer x ends the store goes on or ends
pub inside : (x n : ℕ) → x < buffers → n ≤ buffer_size → buffer_size * x + n ≤ store_size
unfolding store_size buffer_size
inside x n h l = omega arith

module _ (x : ℕ) (l : List ℕ) where
  pub place_rest : (i : ℕ) → place (x ∷ l) (buffer_size + i) ≡ place l i
  unfolding place buffer_size
  place_rest i =
      let q : (512 + i) / 512 ≡ suc (i / 512) = omega arith in
      let r : (512 + i) % 512 ≡ i % 512 = omega arith in
      rw (q, r) refl

  pub place-first : (i : ℕ) → i < buffer_size → place (x ∷ l) i ≡ buffer_size * x + i
  unfolding place buffer_size
  place-first i h =
      let q : i / 512 ≡ 0 = omega arith in
      let r : i % 512 ≡ i = omega arith in
      rw (q, r) refl

  -- what holds of the places in the first buffer, and of those in the others, holds of each
  pub place_cases : (P : ℕ → ℕ → Type 0) → ((i : ℕ) → i < buffer_size → P i (buffer_size * x + i)) → ((i : ℕ) → P (buffer_size + i) (place l i)) → (i : ℕ) → P i (place (x ∷ l) i)
  place_cases P first rest i = ⊎_elim
      (λ (h : buffer_size ≤ i).
      let split : buffer_size + (i - buffer_size) ≡ i = omega arith in
      subst (λ (n : ℕ). P n (place (x ∷ l) n)) split (rw (place_rest (i - buffer_size)) (rest (i - buffer_size))))
      (λ (h : i < buffer_size). rw (place-first i h) (first i h))
      (le? buffer_size i)

-- ---- in which buffers they are

nth_occurs : (l : List ℕ) (q : ℕ) → q < length l → 1 ≤ occurs (get_or l q 0) l
nth_occurs [] q h = absurd (omega arith)
nth_occurs (x ∷ l) zero h = omega (arith, one_same x)
nth_occurs (x ∷ l) (suc q) h = omega (arith, nth_occurs l q (omega arith))

pub only : (x y : ℕ) → 1 ≤ occurs y (x ∷ []) → x ≡ y
only x y o = ⊎_elim (λ e. e) (λ (d : x ≢ y). absurd (omega (arith, one_other x y d))) (cases_eq x y)

-- a place is somewhere in one of the buffers
record Spot (l : List ℕ) (i : ℕ) : Type 0 where
  pub buffer : ℕ
  pub offset : ℕ
  pub of_these : 1 ≤ occurs buffer l
  pub in_buffer : offset < buffer_size
  pub is : place l i ≡ buffer_size * buffer + offset

spot : (l : List ℕ) (i : ℕ) → i < buffer_size * length l → Spot l i
unfolding place buffer_size
spot l i h = record { buffer = get_or l (i / 512) 0; offset = i % 512; of_these = nth_occurs l (i / 512) (omega arith); in_buffer = omega arith; is = refl }

one_buffer : (x y i j : ℕ) → i < buffer_size → j < buffer_size → buffer_size * x + i ≡ buffer_size * y + j → x ≡ y
unfolding buffer_size
one_buffer x y i j h k e = omega arith

-- different buffers have no place in common
pub places_apart : (l m : List ℕ) (i j : ℕ) → i < buffer_size * length l → j < buffer_size * length m → ((x : ℕ) → 1 ≤ occurs x l → occurs x m ≡ 0) → place l i ≢ place m j
places_apart l m i j h k apart e =
    let a = spot l i h in
    let b = spot m j k in
    let same : a.buffer ≡ b.buffer = one_buffer a.buffer b.buffer a.offset b.offset a.in_buffer b.in_buffer (sym a.is ∙ (e ∙ b.is)) in
    omega (arith, b.of_these, subst (λ (x : ℕ). occurs x m ≡ 0) same (apart a.buffer a.of_these))
