-- Laws of an area: a text laid over its start, byte by byte, and what stands where it does not fit.
-- Assumes nothing.
use Prim.Native.Nat.{ℕ, suc, ◌+◌, ◌-◌, ◌/◌, ◌%◌, ◌≤◌, ◌<◌}
use mathlib.Core.Bool.{Bool, true, false}
use mathlib.Core.Path.{◌≡◌, refl, sym, subst, ◌∙◌}
use mathlib.Core.List.{List, [], ◌∷◌, ◌++◌, append_assoc, append-nil}
use native.Mathlib.Omega.{arith}
use native.Mathlib.Numerals.{add-one}
use lib.Dec.{leb}
use lib.ListN.{length, get_or, set, take, drop, length-append}
use lib.Seq.{drop-cons, drop-drop, set-append_seam, take-suc, take-append_seam, drop-append_seam, take-length, drop-length, length-take-le}
use borrow.Author.Tests.{leb-true, le-leb, lt-leb}
use Rattle.std.specs.Prelude.{if◌then◌else◌}
use Rattle.answers.specs.Answer.{hex_of, hex_pairs}
use Rattle.answers.specs.Written.{laid, Written}

pub written_none : (l o : List ℕ) → length o < length l → Written l o o 0
written_none l o h = record { content = rw (lt-leb (length l) (length o) h); counted = rw (lt-leb (length l) (length o) h) }

pub written_all : (l o new : List ℕ) (n : ℕ) → length l ≤ length o → new ≡ laid l o → n ≡ length l → Written l o new n
written_all l o new n h e d = record { content = rw (le-leb (length l) (length o) h) e; counted = rw (le-leb (length l) (length o) h) d }

laid_more : (l o : List ℕ) (n x : ℕ) → n ≡ length l → n < length o → set (laid l o) n x ≡ laid (l ++ (x ∷ [])) o
laid_more l o n x e h =
    let here : length l < length o = omega arith in
    let longer : length (l ++ (x ∷ [])) ≡ suc (length l) = length-append l (x ∷ []) ∙ add-one (length l) in
    rw (longer, e, drop-cons o (length l) 0 here, set-append_seam l (get_or o (length l) 0) (drop (suc (length l)) o) x) (simp append_assoc)

module _ (o s : List ℕ) (i : ℕ) (inside : i < length s) where
  one_more : take (i + 1) s ≡ take i s ++ (get_or s i 0 ∷ [])
  one_more = rw add-one (take-suc s i 0 inside)

  pub laid-byte : length s ≤ length o → set (laid (take i s) o) i (get_or s i 0) ≡ laid (take (i + 1) s) o
  laid-byte h = rw one_more (laid_more (take i s) o i (get_or s i 0) (sym (length-take-le i s (omega arith))) (omega arith))

-- ---- pairs

pub pairs-length : (l : List ℕ) → length (hex_pairs l) ≡ length l + length l
pairs-length [] = refl
pairs-length (x ∷ l) = omega (arith, pairs-length l)

pairs-append : (a b : List ℕ) → hex_pairs (a ++ b) ≡ hex_pairs a ++ hex_pairs b
pairs-append [] b = refl
pairs-append (x ∷ a) b = rw (pairs-append a b)

module _ (o s : List ℕ) (i at : ℕ) (inside : i < length s) (even : at ≡ i + i) (room : length s + length s ≤ length o) where
  pub laid_pair : set (set (laid (hex_pairs (take i s)) o) at (hex_of (get_or s i 0 / 16))) (at + 1) (hex_of (get_or s i 0 % 16)) ≡ laid (hex_pairs (take (i + 1) s)) o
  laid_pair =
      let p = hex_pairs (take i s) in
      let h = hex_of (get_or s i 0 / 16) in
      let l = hex_of (get_or s i 0 % 16) in
      let long : at ≡ length p = even ∙ sym (pairs-length (take i s) ∙ rw (length-take-le i s (omega arith))) in
      rw (laid_more p o at h long (omega arith), laid_more (p ++ (h ∷ [])) o (at + 1) l (simp length-append (omega arith)) (omega arith), one_more o s i inside, pairs-append (take i s) (get_or s i 0 ∷ [])) (simp append_assoc)

-- ---- what is written, by the text and the area

-- a text that is known otherwise
pub written_as : {n : ℕ} {l l' old new : List ℕ} → l ≡ l' → Written l old new n → Written l' old new n
written_as {n} {l} {l'} {old} {new} e w = subst (λ (x : List ℕ). Written x old new n) e w

-- one text leaves one area
pub one_written : {n n' : ℕ} {l l' old new new' : List ℕ} → l ≡ l' → Written l old new n → Written l' old new' n' → (n ≡ n') × (new ≡ new')
one_written e a b = let w = written_as (sym e) b in (a.counted ∙ sym w.counted, a.content ∙ sym w.content)

pub written_fits : (l o new : List ℕ) (n : ℕ) → Written l o new n → length l ≤ length o → new ≡ laid l o
written_fits l o new n w h = rw (le-leb (length l) (length o) h) at w.content

module _ {l o new : List ℕ} {count : ℕ} (w : Written l o new count) where
  pub written_within : count ≤ length o
  written_within = rw w.counted (go (leb (length l) (length o)) refl)
    where
      go : (t : Bool) → leb (length l) (length o) ≡ t → (if t then length l else 0) ≤ length o
      go true e = leb-true (length l) (length o) e
      go false e = omega arith

  pub written-whole : length l ≤ length o → take count new ≡ l
  written-whole h =
      let counted : count ≡ length l = rw (le-leb (length l) (length o) h) at w.counted in
      rw (counted, written_fits l o new count w h) (take-append_seam l (drop (length l) o))

-- b laid over the part of x from n on, of k bytes, where x is the area with a laid over it
pub laid_behind : (a b o x y : List ℕ) (n k : ℕ) → x ≡ laid a o → n ≡ length a → k ≡ length x - n → y ≡ laid b (take k (drop n x)) → take n x ++ (y ++ drop k (drop n x)) ≡ laid (a ++ b) o
laid_behind a b o x y n k ex en ek ey =
    let d : List ℕ = drop (length a) o in
    let head : take n x ≡ a = rw (ex, en) (take-append_seam a d) in
    let tail : drop n x ≡ d = rw (ex, en) (drop-append_seam a d) in
    let size : k ≡ length d = ek ∙ rw (ex, en, length-append a d) (omega arith) in
    let all : take k (drop n x) ≡ d = rw (tail, size) (take-length d) in
    let gone : drop k (drop n x) ≡ [] = rw (tail, size) (drop-length d) in
    rw (head, ey, all, gone, drop-drop (length b) (length a) o, length-append a b) (simp (append_assoc, append-nil))
