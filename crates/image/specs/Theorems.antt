-- The theorems about images, as statements. Each is proved under its own name in proofs/Theorems.antt.
-- Assumes nothing.
use Rattle.std.specs.Prelude.{◌≡◌, ℕ, length}
use mathlib.Core.List.{List, Memᴰ}
use Rattle.kernel.specs.declared.Kernel.{Kernel}
use Rattle.image.specs.Image.{size, image, U8, Sized, Read, Written}

abbrev pub Bytes : List ℕ → Type 0
Bytes l = (x : ℕ) → Memᴰ x l → U8 x

-- 1. An image has `size` bytes, it is the image of one kernel only, and every `size` bytes are an image.
pub record OneToOne : Type 0 where
  pub long : (k : Kernel) → Sized k → length (image k) ≡ size
  pub bytes : (k : Kernel) → Sized k → Bytes (image k)
  pub one : (k n : Kernel) → Sized k → Sized n → image k ≡ image n → k ≡ n
  pub every : (area : List ℕ) → length area ≡ size → Bytes area → (k : Kernel) × Sized k × (image k ≡ area)

-- 2. No second answer: an area says what is read, the area and the kernel what is written, and what is written is read back.
pub record NoSecond : Type 0 where
  pub read : (area : List ℕ) (k n : Kernel) → Sized k → Sized n → Read area k → Read area n → k ≡ n
  pub written : (k : Kernel) (area a b : List ℕ) → Written k area a → Written k area b → a ≡ b
  pub back : (k n : Kernel) (area after : List ℕ) → Sized k → Sized n → length area ≡ size → Written k area after → Read after n → n ≡ k
