-- Encodings as bytes: of a fixed width, one to one, and onto the lists of so many bytes; of numbers, of arrays, of two things one behind the other.
-- Assumes nothing.
use mathlib.Core.Path.{◌≡◌, refl, sym, ap, ap₂, ◌∙◌, subst}
use mathlib.Core.Logic.{⊎_elim}
use mathlib.Core.List.Memᴰ
use mathlib.Core.List.{List, [], ◌∷◌, ◌++◌, Memᴰ}
use Prim.Native.Nat.{ℕ, zero, suc, ◌+◌, ◌*◌, ◌/◌, ◌%◌, ◌^◌, ◌<◌}
use native.Mathlib.Omega.{arith}
use native.Mathlib.Nat.{suc-mul, add_comm, pow-suc}
use lib.ListN.{length, take, drop, length-append, length-drop, take-append-drop}
use lib.Seq.{length-take-le}
use Rattle.std.proofs.lemmas.List.{nil_from_length}
use Rattle.image.specs.Bytes.{byte, le, each}
use Rattle.image.specs.Image.{U8, Array}
use Rattle.image.specs.Theorems.{Bytes}

-- f encodes what Fits in w bytes
pub record Code {A : Type 0} (f : A → List ℕ) (w : ℕ) (Fits : A → Type 0) : Type 0 where
  pub long : (x : A) → Fits x → length (f x) ≡ w
  pub bytes : (x : A) → Fits x → Bytes (f x)
  pub one : (x y : A) → Fits x → Fits y → f x ≡ f y → x ≡ y
  pub every : (l : List ℕ) → length l ≡ w → Bytes l → (x : A) × Fits x × (f x ≡ l)

-- ---- lists
split : {A : Type 0} (a b c d : List A) → length a ≡ length b → a ++ c ≡ b ++ d → (a ≡ b) × (c ≡ d)
split [] [] c d e f = (refl, f)
split [] (y ∷ b) c d e f = absurd (omega arith)
split (x ∷ a) [] c d e f = absurd (omega arith)
split (x ∷ a) (y ∷ b) c d e f =
    let h : x ≡ y = cc in
    let t : a ++ c ≡ b ++ d = cc in
    let r = split a b c d (omega arith) t in
    (ap₂ ◌∷◌ h r.0, r.1)

bytes_none : Bytes []
bytes_none x m = absurd (Memᴰ.not-nil m)

bytes-more : {x : ℕ} {l : List ℕ} → U8 x → Bytes l → Bytes (x ∷ l)
bytes-more {x} {l} h g y m = ⊎_elim (λ e. rw e h) (g y) (Memᴰ.cases_cons m)

bytes-append : (a b : List ℕ) → Bytes a → Bytes b → Bytes (a ++ b)
bytes-append a b h g x m = ⊎_elim (h x) (g x) (Memᴰ.append_cases a m)

-- the first w bytes of a list, and those behind them
module _ (w v : ℕ) (l : List ℕ) (e : length l ≡ w + v) (h : Bytes l) where
  front_long : length (take w l) ≡ w
  front_long = length-take-le w l (omega arith)

  rear_long : length (drop w l) ≡ v
  rear_long = rw length-drop (omega arith)

  front_bytes : Bytes (take w l)
  front_bytes x m = h x (subst (Memᴰ x) (take-append-drop w l) (Memᴰ.append_left (drop w l) m))

  rear_bytes : Bytes (drop w l)
  rear_bytes x m = h x (subst (Memᴰ x) (take-append-drop w l) (Memᴰ.append_right (take w l) m))

-- ---- two things, one behind the other
module _ {A B : Type 0} {f : A → List ℕ} {g : B → List ℕ} {w v : ℕ} {F : A → Type 0} {G : B → Type 0} where
  pub both : Code f w F → Code g v G → Code (λ (p : A × B). f p.0 ++ g p.1) (w + v) (λ p. F p.0 × G p.1)
  both c d = record {
    long = λ p h. rw length-append (ap₂ ◌+◌ (c.long p.0 h.0) (d.long p.1 h.1));
    bytes = λ p h. bytes-append (f p.0) (g p.1) (c.bytes p.0 h.0) (d.bytes p.1 h.1);
    one = λ p q h k e.
        let s = split (f p.0) (f q.0) (g p.1) (g q.1) (c.long p.0 h.0 ∙ sym (c.long q.0 k.0)) e in
        λ i. (c.one p.0 q.0 h.0 k.0 s.0 i, d.one p.1 q.1 h.1 k.1 s.1 i);
    every = λ l e h.
        let x = c.every (take w l) (front_long w v l e h) (front_bytes w v l e h) in
        let y = d.every (drop w l) (rear_long w v l e h) (rear_bytes w v l e h) in
        ((x.0, y.0), (x.1, y.1), ap₂ ◌++◌ x.2 y.2 ∙ take-append-drop w l);
  }

-- ---- what is known by an encoded thing, as a struct by its fields
pub through : {A B : Type 0} {f : A → List ℕ} {w : ℕ} {F : A → Type 0} (to : B → A) (from : A → B) → ((a : A) → to (from a) ≡ a) → ((b : B) → from (to b) ≡ b)
    → Code f w F → Code (λ b. f (to b)) w (λ b. F (to b))
through {f = f} {F = F} to from p q c = record {
  long = λ b h. c.long (to b) h;
  bytes = λ b h. c.bytes (to b) h;
  one = λ x y h k e. sym (q x) ∙ ap from (c.one (to x) (to y) h k e) ∙ q y;
  every = λ l e h.
      let x = c.every l e h in
      (from x.0, rw (p x.0) x.1, ap f (p x.0) ∙ x.2);
}

-- ---- an array
module _ {A : Type 0} {f : A → List ℕ} {w : ℕ} {F : A → Type 0} (c : Code f w F) where
  abbrev All : List A → Type 0
  All xs = (x : A) → Memᴰ x xs → F x

  all_more : (x : A) (xs : List A) → F x → All xs → All (x ∷ xs)
  all_more x xs h a y m = ⊎_elim (λ e. rw e h) (a y) (Memᴰ.cases_cons m)

  first : (x : A) (xs : List A) → All (x ∷ xs) → F x
  first x xs a = a x (Memᴰ.head refl)

  rest : (x : A) (xs : List A) → All (x ∷ xs) → All xs
  rest x xs a y m = a y (Memᴰ.tail m)

  more : (n : ℕ) → suc n * w ≡ w + n * w
  more n = suc-mul n w ∙ add_comm (n * w) w

  each_long : (xs : List A) → All xs → length (each f xs) ≡ length xs * w
  each_long [] a = omega arith
  each_long (x ∷ xs) a = rw (length-append, c.long x (first x xs a), each_long xs (rest x xs a)) (sym (more (length xs)))

  each-bytes : (xs : List A) → All xs → Bytes (each f xs)
  each-bytes [] a = bytes_none
  each-bytes (x ∷ xs) a = bytes-append (f x) (each f xs) (c.bytes x (first x xs a)) (each-bytes xs (rest x xs a))

  each-one : (xs ys : List A) → length xs ≡ length ys → All xs → All ys → each f xs ≡ each f ys → xs ≡ ys
  each-one [] [] l a b e = refl
  each-one [] (y ∷ ys) l a b e = absurd (omega arith)
  each-one (x ∷ xs) [] l a b e = absurd (omega arith)
  each-one (x ∷ xs) (y ∷ ys) l a b e =
      let h = first x xs a in
      let k = first y ys b in
      let s = split (f x) (f y) (each f xs) (each f ys) (c.long x h ∙ sym (c.long y k)) e in
      ap₂ ◌∷◌ (c.one x y h k s.0) (each-one xs ys (omega arith) (rest x xs a) (rest y ys b) s.1)

  each_every : (n : ℕ) (l : List ℕ) → length l ≡ n * w → Bytes l → (xs : List A) × Array n F xs × (each f xs ≡ l)
  each_every zero l e h = ([], record { long = refl; fit = λ x m. absurd (Memᴰ.not-nil m) }, sym (nil_from_length l (omega arith)))
  each_every (suc n) l e h =
      let g = e ∙ more n in
      let x = c.every (take w l) (front_long w (n * w) l g h) (front_bytes w (n * w) l g h) in
      let r = each_every n (drop w l) (rear_long w (n * w) l g h) (rear_bytes w (n * w) l g h) in
      (x.0 ∷ r.0, record { long = ap suc r.1.long; fit = all_more x.0 r.0 x.1 r.1.fit }, ap₂ ◌++◌ x.2 r.2 ∙ take-append-drop w l)

  pub array : (n : ℕ) → Code (each f) (n * w) (Array n F)
  array n = record {
    long = λ xs a. each_long xs a.fit ∙ ap (λ (m : ℕ). m * w) a.long;
    bytes = λ xs a. each-bytes xs a.fit;
    one = λ xs ys a b. each-one xs ys (a.long ∙ sym b.long) a.fit b.fit;
    every = each_every n;
  }

-- ---- numbers
pub byte_code : Code byte 1 U8
byte_code = record { long = λ x h. refl; bytes = λ x h. bytes-more h bytes_none; one = λ x y h k e. cc; every = every }
  where
    every : (l : List ℕ) → length l ≡ 1 → Bytes l → (x : ℕ) × U8 x × (byte x ≡ l)
    every [] e h = absurd (omega arith)
    every (x ∷ []) e h = (x, h x (Memᴰ.head refl), refl)
    every (x ∷ y ∷ l) e h = absurd (omega arith)

le-more : (w a x : ℕ) → U8 a → le (suc w) (a + 256 * x) ≡ a ∷ le w x
le-more w a x h =
    let p : (a + 256 * x) % 256 ≡ a = omega arith in
    let q : (a + 256 * x) / 256 ≡ x = omega arith in
    rw (p, q)

le_long : (w x : ℕ) → length (le w x) ≡ w
le_long zero x = refl
le_long (suc w) x = ap suc (le_long w (x / 256))

le_bytes : (w x : ℕ) → Bytes (le w x)
le_bytes zero x = bytes_none
le_bytes (suc w) x = bytes-more (omega arith) (le_bytes w (x / 256))

below : (w x : ℕ) → x < 256 ^ suc w → x / 256 < 256 ^ w
below w x h = let g : x < 256 ^ w * 256 = rw pow-suc at h in omega arith

le-one : (w x y : ℕ) → x < 256 ^ w → y < 256 ^ w → le w x ≡ le w y → x ≡ y
le-one zero x y h k e = omega arith
le-one (suc w) x y h k e =
    let p : x % 256 ≡ y % 256 = cc in
    let t : le w (x / 256) ≡ le w (y / 256) = cc in
    let q : x / 256 ≡ y / 256 = le-one w (x / 256) (y / 256) (below w x h) (below w y k) t in
    omega arith

le_every : (w : ℕ) (l : List ℕ) → length l ≡ w → Bytes l → (x : ℕ) × (x < 256 ^ w) × (le w x ≡ l)
le_every zero l e h = (0, omega arith, sym (nil_from_length l e))
le_every (suc w) [] e h = absurd (omega arith)
le_every (suc w) (a ∷ l) e h =
    let b = h a (Memᴰ.head refl) in
    let r = le_every w l (omega arith) (λ x m. h x (Memᴰ.tail m)) in
    let g : a + 256 * r.0 < 256 ^ w * 256 = omega (arith, b, r.1) in
    (a + 256 * r.0, rw pow-suc g, le-more w a r.0 b ∙ ap (λ (t : List ℕ). a ∷ t) r.2)

pub le_code : (w : ℕ) → Code (le w) w (λ x. x < 256 ^ w)
le_code w = record { long = λ x h. le_long w x; bytes = λ x h. le_bytes w x; one = le-one w; every = le_every w }
