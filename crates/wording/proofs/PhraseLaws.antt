-- Laws of a text that grows at its end: piece by piece it is the pieces together, as far as there is room.
-- Assumes nothing.
use Prim.Native.Nat.{ℕ, zero, suc, ◌+◌, ◌-◌, ◌≤◌, ◌<◌, min}
use mathlib.Core.List.{List, [], ◌∷◌, ◌++◌, append_assoc}
use mathlib.Core.Path.{◌≡◌, refl, sym, ap, ◌∙◌}
use native.Mathlib.Omega.{arith}
use mathlib.Core.Logic.{⊎_elim}
use borrow.Rule.Slice.PartMut.{put_mid, post_of}
use Rattle.lists.proofs.Laws.{le?}
use lib.ListN.{length, take, length-append}
use lib.Seq.{take_all, take-append_seam, take-append-add, length-take-le}
use Rattle.wording.specs.Promises.{room, cut, more}

take_front : (n : ℕ) (a b : List ℕ) → take n (take n a ++ b) ≡ take n (a ++ b)
take_front zero a b = refl
take_front (suc n) [] b = refl
take_front (suc n) (x ∷ a) b = ap (λ (l : List ℕ). x ∷ l) (take_front n a b)

pub cut_cut : (n : ℕ) (s a b : List ℕ) → cut n (cut n s a) b ≡ cut n s (a ++ b)
unfolding cut
cut_cut n s a b = take_front n (s ++ a) b ∙ ap (take n) (append_assoc s a b)

pub more-more : (s a b : List ℕ) → more (more s a) b ≡ more s (a ++ b)
more-more s a b = cut_cut room s a b

-- what fits is there whole
pub cut_fits : (n : ℕ) (s l : List ℕ) → length (s ++ l) ≤ n → cut n s l ≡ s ++ l
unfolding cut
cut_fits n s l h = take_all n (s ++ l) h

pub more_fits : (s l : List ℕ) → length (s ++ l) ≤ room → more s l ≡ s ++ l
more_fits s l h = cut_fits room s l h

-- a piece put behind the first bytes of a buffer, as far as there is room
pub cut_bytes : (room : ℕ) (bytes : List ℕ) (start n k : ℕ) (piece : List ℕ) → length bytes ≡ room → start ≤ room → n ≡ min (length piece) (room - start) → k ≡ n → take (start + n) (put_mid start k bytes (take n piece)) ≡ cut room (take start bytes) piece
unfolding cut
cut_bytes room bytes start n k piece size within many same =
    let end : ℕ = start + n in
    let front : List ℕ = take start bytes in
    let long : length front ≡ start = length-take-le start bytes (omega arith) in
    let said : length (take n piece) ≡ n = length-take-le n piece (omega arith) in
    let whole : end ≡ length (front ++ take n piece) = rw (length-append front (take n piece)) (omega arith) in
    let here : take end (front ++ (take n piece ++ post_of start n bytes)) ≡ front ++ take n piece =
    rw (whole, ← append_assoc front (take n piece) (post_of start n bytes)) (take-append_seam (front ++ take n piece) (post_of start n bytes)) in
    let past : room ≡ length front + (room - start) = omega arith in
    rw same (here ∙ ap (λ (l : List ℕ). front ++ l) (sym (first piece (room - start) n many)) ∙ sym (ap (λ (k : ℕ). take k (front ++ piece)) past ∙ take-append-add front piece (room - start)))
  where
    first : (l : List ℕ) (k n : ℕ) → n ≡ min (length l) k → take k l ≡ take n l
    first l k n e = ⊎_elim
        (λ (h : k ≤ length l). let same : n ≡ k = omega arith in rw same)
        (λ (h : length l < k). take_all k l (omega arith) ∙ sym (take_all n l (omega arith)))
        (le? k (length l))
