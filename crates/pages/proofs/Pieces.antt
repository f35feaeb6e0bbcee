-- One piece of a message, and one turn of writing and of reading, as the code takes them.
-- Assumes nothing.
use Prim.Native.Nat.{ℕ, suc, min, ◌+◌, ◌-◌, ◌*◌, ◌≤◌, ◌<◌}
use mathlib.Core.Bool.{Bool, true, false}
use mathlib.Core.List.{List, [], ◌∷◌, ◌++◌, append-nil}
use mathlib.Core.Logic.{⊎_elim}
use mathlib.Core.Path.{◌≡◌, refl, sym, ap, ◌∙◌}
use native.Mathlib.Nat.{min-eq_left, min-eq_right}
use native.Mathlib.Omega.{arith}
use lib.Dec.{leb}
use lib.ListN.{length, take, drop, length-append}
use lib.Seq.{take_all, take_at, drop_at, paste, length-paste}
use borrow.Author.Tests.{le-leb, lt-leb}
use Rattle.std.specs.Prelude.{if◌then◌else◌}
use Rattle.std.proofs.lemmas.List.{nil_from_length}
use Rattle.std.proofs.lemmas.List.Edits.{paste_none}
use Rattle.lists.proofs.Laws.{le?}
use Rattle.plain.specs.Pages.{needed}
use Rattle.plain.specs.Sizes.{buffer_size}
use Rattle.chains.specs.Led.{after}
use Rattle.chains.specs.Links.{run}
use Rattle.pages.specs.Pieces.{placed, pieced, laid, filled}

-- ---- one piece

module _ (dst : List ℕ) (at : ℕ) (b : List ℕ) where
  pub placed_there : at + length b ≤ length dst → placed dst at b ≡ paste dst at b (length b)
  unfolding placed
  placed_there h = rw (le-leb (at + length b) (length dst) h)

  placed_not : leb (at + length b) (length dst) ≡ false → placed dst at b ≡ dst
  unfolding placed
  placed_not e = rw e

  pub placed_long : (w : List ℕ) → w ≡ placed dst at b → length w ≡ length dst
  placed_long w e = ap length e ∙ ⊎_elim
      (λ (h : at + length b ≤ length dst). ap length (placed_there h) ∙ length-paste dst at b (length b) h (omega arith))
      (λ (h : length dst < at + length b). ap length (placed_not (lt-leb (at + length b) (length dst) h)))
      (le? (at + length b) (length dst))

placed_none : (dst : List ℕ) (at : ℕ) → placed dst at [] ≡ dst
unfolding placed
placed_none dst at = go (leb (at + length {A = ℕ} []) (length dst))
  where
    go : (r : Bool) → (if r then paste dst at [] 0 else dst) ≡ dst
    go true = sym (paste_none dst at [])
    go false = refl

pieced_none : (dst : List ℕ) (at : ℕ) (src : List ℕ) (from : ℕ) → pieced dst at src from 0 ≡ dst
unfolding pieced
pieced_none dst at src from = go (leb (from + 0) (length src))
  where
    go : (r : Bool) → (if r then placed dst at [] else dst) ≡ dst
    go true = placed_none dst at
    go false = refl

module _ (dst : List ℕ) (at : ℕ) (src : List ℕ) (from n : ℕ) where
  pub pieced_there : from + n ≤ length src → pieced dst at src from n ≡ placed dst at (take n (drop from src))
  unfolding pieced
  pieced_there h = rw (le-leb (from + n) (length src) h)

  pieced_not : leb (from + n) (length src) ≡ false → pieced dst at src from n ≡ dst
  unfolding pieced
  pieced_not e = rw e

  pub pieced_long : (w : List ℕ) → w ≡ pieced dst at src from n → length w ≡ length dst
  pieced_long w e = ⊎_elim
      (λ (h : from + n ≤ length src). placed_long dst at (take n (drop from src)) w (e ∙ pieced_there h))
      (λ (h : length src < from + n). ap length (e ∙ pieced_not (lt-leb (from + n) (length src) h)))
      (le? (from + n) (length src))

-- ---- how many buffers are left

needed-one : (n : ℕ) → n ≤ buffer_size → needed n ≡ 1
unfolding needed buffer_size
needed-one n h = omega arith

pub needed-more : (n : ℕ) → buffer_size < n → needed n ≡ suc (needed (n - buffer_size))
unfolding needed buffer_size
needed-more n h = omega arith

run-one : (t : List ℕ) (n x : ℕ) → n ≤ buffer_size → run t (needed n) x ≡ x ∷ []
unfolding run
run-one t n x h = rw (needed-one n h)

run_more : (t : List ℕ) (n x : ℕ) → buffer_size < n → run t (needed n) x ≡ x ∷ run t (needed (n - buffer_size)) (after t x)
unfolding run
run_more t n x h = rw (needed-more n h)

-- ---- writing: nothing more, and a turn; w is the store behind it, q where buffer x begins, and `rest` is still to be written

pub laid-none : (t s : List ℕ) (x : ℕ) → laid s (run t (needed 0) x) [] ≡ s
unfolding laid buffer_size
laid-none t s x = rw (run-one t 0 x (omega arith), laid) (placed_none s (buffer_size * x))

module _ (t s w piece rest more : List ℕ) (x q y : ℕ) (start : q ≡ buffer_size * x) (put : w ≡ placed s q piece) (ey : y ≡ after t x) (parts : rest ≡ piece ++ more) (long : length piece ≡ min buffer_size (length rest)) where
  both : length rest ≡ length piece + length more
  both = ap length parts ∙ length-append piece more

  pub laid_more : laid w (run t (needed (length more)) y) more ≡ laid s (run t (needed (length rest)) x) rest
  unfolding laid
  laid_more = ⊎_elim
      (λ (h : length rest ≤ buffer_size).
      let none : more ≡ [] = nil_from_length more (omega (arith, both, min-eq_right {n = length rest} {m = buffer_size} h)) in
      let whole : rest ≡ piece = parts ∙ ap (λ (r : List ℕ). piece ++ r) none ∙ append-nil piece in
      let last : take buffer_size rest ≡ piece = take_all buffer_size rest h ∙ whole in
      rw none (laid-none t w y ∙ put ∙ ap (λ (k : ℕ). placed s k piece) start ∙ sym (rw (run-one t (length rest) x h, laid, last))))
      (λ (h : buffer_size < length rest).
      let full : length piece ≡ buffer_size = long ∙ min-eq_left {n = buffer_size} {m = length rest} (omega arith) in
      let n : length rest - buffer_size ≡ length more = omega (arith, both) in
      let first : take buffer_size rest ≡ piece = ap (take buffer_size) parts ∙ take_at piece more buffer_size full in
      let others : drop buffer_size rest ≡ more = ap (drop buffer_size) parts ∙ drop_at piece more buffer_size full in
      rw (run_more t (length rest) x h, laid, n, first, others, put, start, ey))
      (le? (length rest) buffer_size)

-- ---- reading: nothing more, a turn, and the last piece; w is the room behind it, q where buffer x begins

pub filled-none : (t s r : List ℕ) (x at n : ℕ) → n ≤ at → filled r at s (run t (needed (n - at)) x) (n - at) ≡ r
unfolding filled buffer_size
filled-none t s r x at n h =
    let e : n - at ≡ 0 = omega arith in
    rw (e, run-one t 0 x (omega arith), filled) (pieced_none r at s (buffer_size * x))

module _ (t s r w : List ℕ) (x at n q : ℕ) (start : q ≡ buffer_size * x) (m : ℕ) (size : m ≡ min buffer_size (n - at)) (put : w ≡ pieced r at s q m) where
  pub filled_more : (y : ℕ) → y ≡ after t x → buffer_size < n - at
      → filled w (at + buffer_size) s (run t (needed (n - (at + buffer_size))) y) (n - (at + buffer_size)) ≡ filled r at s (run t (needed (n - at)) x) (n - at)
  unfolding filled
  filled_more y f h =
      let k : n - (at + buffer_size) ≡ n - at - buffer_size = omega arith in
      rw (run_more t (n - at) x h, put, f, start, size, k, filled)

  pub filled-last : n - at ≤ buffer_size → w ≡ filled r at s (run t (needed (n - at)) x) (n - at)
  unfolding filled
  filled-last h = rw (run-one t (n - at) x h, put, start, size, filled)
