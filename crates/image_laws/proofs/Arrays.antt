-- Arrays: the values of a function, units of given numbers (a unit is a struct that holds one number), and what fits in each place.
-- Assumes nothing.
use Prim.Native.Nat.{ℕ, zero, suc, ◌≤◌, ◌<◌}
use mathlib.Core.Path.{◌≡◌, refl, sym, ap, ap₂, ◌∙◌}
use mathlib.Core.Logic.{⊎_elim}
use mathlib.Core.List.Memᴰ
use mathlib.Core.List.{List, [], ◌∷◌, map, Memᴰ}
use native.Mathlib.Omega.{arith}
use lib.ListN.{length, get_or, length-map}
use Rattle.rings.specs.Ring.{Tables}
use Rattle.rings.specs.Units.{numbered}
use Rattle.image.specs.Image.{Array}

-- f 0, f 1, .., f (n - 1)
unfoldable pub values : ℕ → (ℕ → ℕ) → List ℕ
values zero f = []
values (suc n) f = f 0 ∷ values n (λ i. f (suc i))

pub values_long : (n : ℕ) (f : ℕ → ℕ) → length (values n f) ≡ n
unfolding values
values_long zero f = refl
values_long (suc n) f = ap suc (values_long n (λ i. f (suc i)))

-- where f is g from n on
pub values_or : (n : ℕ) (f g : ℕ → ℕ) → ((i : ℕ) → n ≤ i → f i ≡ g i) → (i : ℕ) → get_or (values n f) i (g i) ≡ f i
unfolding values
values_or zero f g z i = sym (z i (omega arith))
values_or (suc n) f g z zero = refl
values_or (suc n) f g z (suc i) = values_or n (λ j. f (suc j)) (λ j. g (suc j)) (λ j h. z (suc j) (omega arith)) i

-- where f is 0 from n on
pub values-at : (n : ℕ) (f : ℕ → ℕ) → ((i : ℕ) → n ≤ i → f i ≡ 0) → (i : ℕ) → get_or (values n f) i 0 ≡ f i
values-at n f = values_or n f (λ i. 0)

-- what fits in each place
module _ (F : ℕ → Type 0) where
  each_fits : (l : List ℕ) → ((i : ℕ) → i < length l → F (get_or l i 0)) → (x : ℕ) → Memᴰ x l → F x
  each_fits [] h x m = absurd (Memᴰ.not-nil m)
  each_fits (y ∷ l) h x m = ⊎_elim (λ e. rw e (h 0 (omega arith))) (each_fits l (λ i b. h (suc i) (omega arith)) x) (Memᴰ.cases_cons m)

  pub fitting : (n : ℕ) (l : List ℕ) → length l ≡ n → ((i : ℕ) → i < n → F (get_or l i 0)) → Array n F l
  fitting n l e h = record { long = e; fit = each_fits l (λ i b. h i (omega (arith, e))) }

-- units, known by their numbers
module _ {A : Type 0} (num : A → ℕ) where
  pub units_fit : {F : ℕ → Type 0} {n : ℕ} (l : List A) → Array n F (map num l) → Array n (λ x. F (num x)) l
  units_fit l a = record { long = sym (length-map l num) ∙ a.long; fit = λ x m. a.fit (num x) (Memᴰ.map num m) }

  module _ (unit : ℕ → A) (same : (x : ℕ) → num (unit x) ≡ x) where
    pub units : (l : List ℕ) → map num (map unit l) ≡ l
    units [] = refl
    units (x ∷ l) = ap₂ ◌∷◌ (same x) (units l)

    pub unit_tables : (t : Tables) → numbered num (map unit t.next) (map unit t.prev) ≡ t
    unit_tables t = λ i. record { next = units t.next i; prev = units t.prev i }
