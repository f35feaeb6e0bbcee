-- Laws of an area that a stream fills: read by read, until the area is full or nothing is left.
-- Assumes nothing.
use Rattle.std.proofs.Common.{ℕ, ◌+◌, ◌≤◌, ◌≡◌, ◌⊎◌, ⊎_elim, List, ◌++◌, Option, Some, None, arith, sym, ap, ◌∙◌, subst, length, length-append, take, drop, length-take-le}
use Rattle.std.proofs.KnownBytes.{Consumes-trans}
use Rattle.std.specs.Io.KnownBytes.{Consumes, IsAtEnd}
use borrow.Rule.Slice.PartMut.{put_mid, post_of}
use lib.Seq.{take-append-add, take-append-le, take-append_seam, drop-append_seam}
use Rattle.telling.specs.Streams.{Fills}

-- what is full, or has met the end, is filled
pub filled : (old new : Option (List ℕ)) (area : List ℕ) (got : ℕ) → Consumes old new (take got area) → got ≤ length area → (got ≡ length area) ⊎ IsAtEnd new → Fills old new area got
filled None new area got p h e = tt
filled (Some xs) None area got p h e = absurd p
filled (Some xs) (Some ys) area got p h e =
    let n : length (take got area) ≡ got = length-take-le got area h in
    let long : length xs ≡ got + length ys = ap length p ∙ length-append (take got area) ys ∙ ap (λ k. k + length ys) n in
    let start : take got xs ≡ take got area = rw p (subst (λ k. take k (take got area ++ ys) ≡ take got area) n (take-append_seam (take got area) ys)) in
    let rest : drop got xs ≡ ys = rw p (subst (λ k. drop k (take got area ++ ys) ≡ ys) n (drop-append_seam (take got area) ys)) in
    (⊎_elim (λ full. omega arith) (λ ended. let none : length ys ≡ 0 = ap length ended in omega arith) e, sym start, ap Some (sym rest))

-- what one read gives stands behind what the area holds
behind : (at n room : ℕ) (area new : List ℕ) → at ≤ length area → n ≤ length new → take at area ++ take n new ≡ take (at + n) (put_mid at room area new)
behind at n room area new h fits =
    let rest = new ++ post_of at room area in
    sym (subst (λ k. take (k + n) (take at area ++ rest) ≡ take at area ++ take n new) (length-take-le at area h) (take-append-add (take at area) rest n ∙ ap (λ t. take at area ++ t) (take-append-le n new (post_of at room area) fits)))

-- a read more, of what the reader had left
pub one_more : (a b c : Option (List ℕ)) (at n room : ℕ) (area new : List ℕ) → at ≤ length area → n ≤ length new → Consumes a b (take at area) → Consumes b c (take n new) → Consumes a c (take (at + n) (put_mid at room area new))
one_more a b c at n room area new h fits p q = subst (Consumes a c) (behind at n room area new h fits) (Consumes-trans a b c (take at area) (take n new) p q)
