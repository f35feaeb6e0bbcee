-- Where the store has all its bytes and the list is one of buffers, what is written and what is read is what the promise says.
-- Assumes nothing.
use Prim.Native.Nat.{ℕ, suc, ◌+◌, ◌-◌, ◌*◌, ◌≤◌, ◌<◌}
use mathlib.Core.List.{List, [], ◌∷◌, ◌++◌, append_assoc, append-nil}
use mathlib.Core.Logic.{⊎_elim}
use mathlib.Core.Path.{◌≡◌, refl, sym, ap, ◌∙◌}
use native.Mathlib.Nat.{min-eq_left, min-eq_right}
use native.Mathlib.Omega.{arith}
use lib.ListN.{length, take, drop, length-append, length-drop}
use lib.Seq.{length-take-le, take_all, take-length, take-take, take-append-add, drop-drop, take_at, drop_at}
use Rattle.lists.proofs.Laws.{le?}
use Rattle.plain.specs.Pages.{needed}
use Rattle.plain.specs.Sizes.{buffers, buffer_size, store_size}
use Rattle.pages.specs.Pieces.{placed, pieced, laid, filled}
use Rattle.promise.specs.Promise.{written, poured, gathered}
use Rattle.promise.proofs.Places.{AreBuffers, first_is, rest_are, inside}
use Rattle.pages.proofs.Pieces.{placed_there, placed_long, pieced_there, pieced_long, needed-more}

-- bytes b that are placed, with what stands before and behind them
placed_is : (dst : List ℕ) (at : ℕ) (b : List ℕ) → at + length b ≤ length dst → placed dst at b ≡ take at dst ++ (b ++ drop (at + length b) dst)
placed_is dst at b h = placed_there dst at b h ∙ append_assoc (take at dst) (take (length b) b) (drop (at + length b) dst) ∙ rw (take-length b)

-- ---- writing

take_short : (n : ℕ) (b : List ℕ) → length (take n b) ≤ n
take_short n b = ⊎_elim
    (λ (h : n ≤ length b). omega (arith, length-take-le n b h))
    (λ (h : length b < n). omega (arith, ap length (take_all n b (omega arith))))
    (le? n (length b))

placed-written : (s : List ℕ) (x : ℕ) (b : List ℕ) → length s ≡ store_size → x < buffers → placed s (buffer_size * x) (take buffer_size b) ≡ written s x (take buffer_size b)
placed-written s x b e h =
    placed_is s (buffer_size * x) (take buffer_size b) (omega (arith, e, inside x (length (take buffer_size b)) h (take_short buffer_size b)))
    ∙ rw (← drop-drop (length (take buffer_size b)) (buffer_size * x) s)

pub laid-poured : (l s b : List ℕ) → length s ≡ store_size → AreBuffers l → laid s l b ≡ poured s l b
unfolding laid poured
laid-poured [] s b e h = refl
laid-poured (x ∷ l) s b e h =
    laid-poured l (placed s (buffer_size * x) (take buffer_size b)) (drop buffer_size b) (placed_long s (buffer_size * x) (take buffer_size b) _ refl ∙ e) (rest_are x l h)
    ∙ ap (λ (u : List ℕ). poured u l (drop buffer_size b)) (placed-written s x b e (first_is x l h))

-- ---- reading

none_needed : (n : ℕ) → 0 ≡ needed n → ⊥
unfolding needed buffer_size
none_needed n c = omega arith

one-needed : (n : ℕ) → 1 ≡ needed n → n ≤ buffer_size
unfolding needed buffer_size
one-needed n c = omega arith

more-needed : (n k : ℕ) → suc (suc k) ≡ needed n → buffer_size < n
unfolding needed buffer_size
more-needed n k c = omega arith

-- r with v from `at` on, and behind v the first of g, up to n bytes in all
module _ (r v u : List ℕ) (at n : ℕ) (e : u ≡ take at r ++ (v ++ drop (at + length v) r)) (k : length v ≤ n) (f : at + n ≤ length r) where
  ahead : List ℕ
  ahead = take at r ++ v

  ahead_long : length ahead ≡ at + length v
  unfolding ahead
  ahead_long = omega (arith, length-append (take at r) v, length-take-le at r (omega arith))

  parted : u ≡ ahead ++ drop (at + length v) r
  unfolding ahead
  parted = e ∙ sym (append_assoc (take at r) v (drop (at + length v) r))

  behind : drop (at + n) u ≡ drop (at + n) r
  behind =
      let d : at + length v + (n - length v) ≡ at + n = omega arith in
      let far : (z : List ℕ) → drop (at + n) z ≡ drop (n - length v) (drop (at + length v) z) = λ z. ap (λ (j : ℕ). drop j z) (sym d) ∙ sym (drop-drop (n - length v) (at + length v) z) in
      far u ∙ ap (drop (n - length v)) (ap (drop (at + length v)) parted ∙ drop_at ahead (drop (at + length v) r) (at + length v) ahead_long) ∙ sym (far r)

  joined : (g : List ℕ) → take (at + length v) u ++ (take (n - length v) g ++ drop (at + n) u) ≡ take at r ++ (take n (v ++ g) ++ drop (at + n) r)
  unfolding ahead
  joined g =
      let a : take (at + length v) u ≡ take at r ++ v = ap (take (at + length v)) parted ∙ take_at ahead (drop (at + length v) r) (at + length v) ahead_long in
      let d : n ≡ length v + (n - length v) = omega arith in
      let b : take n (v ++ g) ≡ v ++ take (n - length v) g = ap (λ (j : ℕ). take j (v ++ g)) d ∙ take-append-add v g (n - length v) in
      rw (a, b, behind, append_assoc (take at r) v (take (n - length v) g ++ drop (at + n) r), append_assoc v (take (n - length v) g) (drop (at + n) r))

module _ (s : List ℕ) (e : length s ≡ store_size) where
  abbrev part : ℕ → ℕ → List ℕ
  part x n = take n (drop (buffer_size * x) s)

  part_long : (x n : ℕ) → x < buffers → n ≤ buffer_size → length (part x n) ≡ n
  part_long x n h k = length-take-le n (drop (buffer_size * x) s) (omega (arith, e, inside x n h k, length-drop (buffer_size * x) s))

  pieced_is : (r : List ℕ) (at x n : ℕ) → x < buffers → n ≤ buffer_size → at + n ≤ length r
      → pieced r at s (buffer_size * x) n ≡ take at r ++ (part x n ++ drop (at + n) r)
  pieced_is r at x n h k f =
      let m : length (part x n) ≡ n = part_long x n h k in
      pieced_there r at s (buffer_size * x) n (omega (arith, e, inside x n h k))
      ∙ placed_is r at (part x n) (rw m f)
      ∙ rw m

  -- the room from `at` on has the first n of what stands in l
  from : (l r : List ℕ) (at n : ℕ) → AreBuffers l → length l ≡ needed n → at + n ≤ length r
      → filled r at s l n ≡ take at r ++ (take n (gathered s l) ++ drop (at + n) r)
  unfolding filled gathered
  from [] r at n h c f = absurd (none_needed n c)
  from (x ∷ []) r at n h c f =
      let k : n ≤ buffer_size = one-needed n c in
      ap (λ (j : ℕ). pieced r at s (buffer_size * x) j) (min-eq_right {n = n} {m = buffer_size} k)
      ∙ pieced_is r at x n (first_is x [] h) k f
      ∙ rw (append-nil (part x buffer_size), take-take n buffer_size (drop (buffer_size * x) s) k)
  from (x ∷ y ∷ l) r at n h c f =
      let k : buffer_size < n = more-needed n (length l) c in
      let v : List ℕ = part x buffer_size in
      let o : length v ≡ buffer_size = part_long x buffer_size (first_is x (y ∷ l) h) (omega arith) in
      let u : List ℕ = pieced r at s (buffer_size * x) buffer_size in
      let m : at + buffer_size + (n - buffer_size) ≡ at + n = omega arith in
      let rest : suc (length l) ≡ needed (n - buffer_size) = omega (arith, needed-more n k) in
      let w : u ≡ take at r ++ (v ++ drop (at + length v) r) = pieced_is r at x buffer_size (first_is x (y ∷ l) h) (omega arith) (omega arith) ∙ rw o in
      ap (λ (j : ℕ). filled (pieced r at s (buffer_size * x) j) (at + buffer_size) s (y ∷ l) (n - buffer_size)) (min-eq_left {n = buffer_size} {m = n} (omega arith))
      ∙ from (y ∷ l) u (at + buffer_size) (n - buffer_size) (rest_are x (y ∷ l) h) rest (omega (arith, pieced_long r at s (buffer_size * x) buffer_size u refl))
      ∙ ap (λ (j : ℕ). take (at + buffer_size) u ++ (take (n - buffer_size) (gathered s (y ∷ l)) ++ drop j u)) m
      ∙ ap (λ (j : ℕ). take (at + j) u ++ (take (n - j) (gathered s (y ∷ l)) ++ drop (at + n) u)) (sym o)
      ∙ joined r v u at n w (omega arith) f (gathered s (y ∷ l))

  pub filled-gathered : (l r : List ℕ) (n : ℕ) → AreBuffers l → length l ≡ needed n → n ≤ length r → filled r 0 s l n ≡ take n (gathered s l) ++ drop n r
  filled-gathered l r n h c f =
      let z : 0 + n ≡ n = omega arith in
      from l r 0 n h c (omega arith) ∙ rw z
