-- Bytes that are put into an area and got from it, part by part and element by element, for any encoding of an element.
-- Assumes nothing.
use mathlib.Core.Path.{◌≡◌, refl, sym, ap, ◌∙◌}
use mathlib.Core.List.{List, [], ◌∷◌, ◌++◌, append_assoc, append-nil}
use Prim.Native.Nat.{ℕ, ◌+◌, ◌<◌}
use native.Mathlib.Omega.{arith}
use native.Mathlib.Nat.{zero-add}
use native.Mathlib.Numerals.{add-one}
use lib.ListN.{length, get_or, set, take, drop, length-set}
use lib.Seq.{take_all, take-suc, take-suc-set, take-length, drop-cons, drop-drop, take-add}
use Rattle.image.specs.Bytes.{byte, each, Put, Got}

-- two parts, one behind the other
pub puts : {at w v : ℕ} {x y a b c : List ℕ} → Put at w x a b → Put (at + w) v y b c → Put at (w + v) (x ++ y) a c
puts {at} {w} {v} p q = record {
  long = q.long ∙ p.long;
  there = λ h.
      let g : at + (w + v) ≡ at + w + v = omega arith in
      rw (g, q.there (omega arith), p.there (omega arith), append_assoc);
}

pub gots : {at w v : ℕ} {x y a : List ℕ} → Got at w x a → Got (at + w) v y a → Got at (w + v) (x ++ y) a
gots {at} {w} {v} {a = a} p q = record {
  there = λ h. rw (p.there (omega arith), q.there (omega arith), ← drop-drop w at a, ← take-add w v (drop at a));
}

-- a few bytes
pub put_one : (area : List ℕ) (n x : ℕ) → Put n 1 (byte x) area (set area n x)
put_one area n x = record { long = length-set area n x; there = λ h. rw add-one (take-suc-set area n x (omega arith)) }

pub put_two : (area : List ℕ) (n m x y : ℕ) → m ≡ n + 1 → Put n 2 (x ∷ y ∷ []) area (set (set area n x) m y)
put_two area n m x y e = rw e (puts (put_one area n x) (put_one (set area n x) (n + 1) y))

pub got-one : (area : List ℕ) (n : ℕ) → Got n 1 (byte (get_or area n 0)) area
got-one area n = record { there = λ h. rw (drop-cons area n 0 (omega arith)) }

pub got_two : (area : List ℕ) (n m : ℕ) → m ≡ n + 1 → Got n 2 (get_or area n 0 ∷ get_or area m 0 ∷ []) area
got_two area n m e = rw e (gots (got-one area n) (got-one area (n + 1)))

-- a part that is the whole area
pub put_whole : {n : ℕ} {x area after : List ℕ} → length area ≡ n → Put 0 n x area after → after ≡ x
put_whole {n} {x} {after = after} e p = sym (take_all n after (omega (arith, p.long))) ∙ rw zero-add at (p.there (omega arith))

pub got-whole : {n : ℕ} {x area : List ℕ} → length area ≡ n → Got 0 n x area → x ≡ area
got-whole {n} {area = area} e p = p.there (omega arith) ∙ take_all n area (omega arith)

-- an array, i elements and then one more
module _ {A : Type 0} (f : A → List ℕ) where
  each_append : (xs ys : List A) → each f (xs ++ ys) ≡ each f xs ++ each f ys
  each_append [] ys = refl
  each_append (x ∷ xs) ys = ap (λ (l : List ℕ). f x ++ l) (each_append xs ys) ∙ sym (append_assoc (f x) (each f xs) (each f ys))

  each_last : (xs : List A) (x : A) → each f (xs ++ (x ∷ [])) ≡ each f xs ++ f x
  each_last xs x = each_append xs (x ∷ []) ∙ ap (λ (l : List ℕ). each f xs ++ l) (append-nil (f x))

  each_all : (xs : List A) (i : ℕ) → i ≡ length xs → each f (take i xs) ≡ each f xs
  each_all xs i e = ap (λ (j : ℕ). each f (take j xs)) e ∙ ap (each f) (take-length xs)

  pub put_more : {at n m w : ℕ} {area mid after : List ℕ} (xs : List A) (z : A) (i : ℕ) → i < length xs → m ≡ n + w
      → Put at n (each f (take i xs)) area mid → Put (at + n) w (f (get_or xs i z)) mid after → Put at m (each f (take (i + 1) xs)) area after
  put_more xs z i h e p q = rw (e, add-one, take-suc xs i z h, each_last (take i xs) (get_or xs i z)) (puts p q)

  pub got-more : {at n m w : ℕ} {area : List ℕ} (xs : List A) (i : ℕ) (x : A) → i < length xs → m ≡ n + w
      → Got at n (each f (take i xs)) area → Got (at + n) w (f x) area → Got at m (each f (take (i + 1) (set xs i x))) area
  got-more xs i x h e p q = rw (e, add-one, take-suc-set xs i x h, each_last (take i xs) x) (gots p q)

  pub got-all : {at n m : ℕ} {area : List ℕ} (xs : List A) (i : ℕ) → i ≡ length xs → m ≡ n
      → Got at n (each f (take i xs)) area → Got at m (each f xs) area
  got-all xs i e h p = rw (h, ← each_all xs i e) p
