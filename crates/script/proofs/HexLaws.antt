-- Laws of hex pairs: two digits at a time, how many bytes so many digits spell, and which.
-- Assumes nothing.
use Prim.Native.Nat.{ℕ, zero, suc, ◌+◌, ◌-◌, ◌*◌, ◌/◌, ◌≤◌, ◌<◌}
use mathlib.Core.Path.{◌≡◌, refl, ap, ◌∙◌}
use mathlib.Core.Bool.{false}
use mathlib.Core.List.{List, [], ◌∷◌}
use mathlib.Core.Option.{Option, none, some}
use native.Mathlib.Omega.{arith}
use lib.ListN.{length, get_or, drop, length-drop}
use borrow.Author.Tests.{le-leb, lt-leb}
use Rattle.std.specs.Prelude as Code
use Rattle.std.specs.Prelude.{Some, None, option_map, unwrap_or}
use Rattle.answers.specs.Ascii.{ascii}
use Rattle.script.specs.Grammar.{hex_digit, byte, prepend, pairs, at_most, bytes, most_bytes, same}
use Rattle.script.specs.Spelled.{spelled, or_zero}
use Rattle.script.specs.Promises.{number_of, pair_at, counted}
use Rattle.script.proofs.WordLaws.{rest, all_from, same_long}
use Rattle.script.proofs.NumberLaws.{not_some}

pair_two : (l : List ℕ) (n : ℕ) → pair_at l ≡ some n → 2 ≤ length l
pair_two [] n e = absurd (not_some e)
pair_two (x ∷ []) n e = absurd (not_some e)
pair_two (x ∷ y ∷ l) n e = omega arith

pairs_next : (l : List ℕ) → 0 < length l → pairs l ≡ prepend (pair_at l) (pairs (drop 2 l))
pairs_next [] h = absurd (omega arith)
pairs_next (x ∷ []) h = refl
pairs_next (x ∷ y ∷ l) h = refl

-- ---- the loop that counts pairs

abbrev after : ℕ → Code.Option ℕ → Code.Option ℕ
after n o = option_map (λ m. n + m) o

-- n pairs spell bytes, and the rest of the word stands behind them
pub record Counted (w : List ℕ) (n : ℕ) (rest : List ℕ) : Type 0 where
  pub whole : length w ≡ n * 2 + length rest
  pub bytes : counted (pairs w) ≡ after n (counted (pairs rest))

pub counted_none : (w : List ℕ) → Counted w 0 w
counted_none w = record { whole = omega arith; bytes = same (counted (pairs w)) }
  where
    same : (o : Code.Option ℕ) → o ≡ after 0 o
    same None = refl
    same (Some n) = ap Some (omega arith)

-- A turn of the loop that counts pairs, where something of the word is left.
module _ (w : List ℕ) (n : ℕ) (left : List ℕ) (f : Counted w n left) (more : 0 < length left) where
  pub counted-bad : pair_at left ≡ none → counted (pairs w) ≡ None
  counted-bad e = f.bytes ∙ rw (pairs_next left more, e)

  pub counted-more : (x : ℕ) → pair_at left ≡ some x → Counted w (n + 1) (drop 2 left)
  counted-more x e =
      let two : 2 ≤ length left = pair_two left x e in
      let long : length (drop 2 left) ≡ length left - 2 = length-drop 2 left in
      record { whole = omega (arith, f.whole); bytes = f.bytes ∙ rw (pairs_next left more, e) (one_more (pairs (drop 2 left))) }
    where
      one_more : (o : Option (List ℕ)) → after n (counted (prepend (some x) o)) ≡ after (n + 1) (counted o)
      one_more none = refl
      one_more (some b) = ap Some (omega arith)

pub counted-all : (w : List ℕ) (n : ℕ) (rest : List ℕ) → Counted w n rest → length rest ≡ 0 → counted (pairs w) ≡ Some (length w / 2)
counted-all w n [] f e = f.bytes ∙ ap Some (omega (arith, f.whole))
counted-all w n (x ∷ rest) f e = absurd (omega arith)

-- ---- the bytes that pairs spell

pub spelled-length : (l : List ℕ) → length (spelled l) ≡ length l / 2
spelled-length [] = refl
spelled-length (x ∷ []) = refl
spelled-length (x ∷ y ∷ l) = omega (arith, spelled-length l)

pub spelled_at : (l : List ℕ) (i : ℕ) → i < length l / 2 → get_or (spelled l) i 0 ≡ or_zero (pair_at (drop (i + i) l))
spelled_at [] i h = absurd (omega arith)
spelled_at (x ∷ []) i h = absurd (omega arith)
spelled_at (x ∷ y ∷ l) zero h = refl
spelled_at (x ∷ y ∷ l) (suc i) h =
    let two : suc i + suc i ≡ suc (suc (i + i)) = omega arith in
    rw two (spelled_at l i (omega arith))

-- the two digits of byte i, as the code reads them
pub spelled_byte : (w : List ℕ) (i : ℕ) {o : Code.Option ℕ} → i < length w / 2 → o ≡ number_of (pair_at (rest w (2 * i))) → unwrap_or o 0 ≡ get_or (spelled w) i 0
spelled_byte w i h e =
    let two : 2 * i ≡ i + i = omega arith in
    rw (e, all_from, two, spelled_at w i h) (read (pair_at (drop (i + i) w)))
  where
    read : (o : Option ℕ) → unwrap_or (number_of o) 0 ≡ or_zero o
    read none = refl
    read (some n) = refl

pub spelled-pairs : (l b : List ℕ) → pairs l ≡ some b → spelled l ≡ b
spelled-pairs [] b e = cc
spelled-pairs (x ∷ []) b e = absurd (not_some e)
spelled-pairs (x ∷ y ∷ l) b e = go (byte (hex_digit x) (hex_digit y)) (pairs l) (λ c d. spelled-pairs l c d) e
  where
    go : (o : Option ℕ) (p : Option (List ℕ)) → ((c : List ℕ) → p ≡ some c → spelled l ≡ c) → prepend o p ≡ some b → or_zero o ∷ spelled l ≡ b
    go none p ih d = absurd (not_some d)
    go (some n) none ih d = absurd (not_some d)
    go (some n) (some c) ih d = let same : n ∷ c ≡ b = cc in ap (λ (t : List ℕ). n ∷ t) (ih c refl) ∙ same

-- ---- a word of bytes

pub pairs-length : (l b : List ℕ) → pairs l ≡ some b → length b + length b ≡ length l
pairs-length [] b e = let same : [] ≡ b = cc in omega (arith, ap length same)
pairs-length (x ∷ []) b e = absurd (not_some e)
pairs-length (x ∷ y ∷ l) b e = go (byte (hex_digit x) (hex_digit y)) (pairs l) (λ c d. pairs-length l c d) e
  where
    go : (o : Option ℕ) (p : Option (List ℕ)) → ((c : List ℕ) → p ≡ some c → length c + length c ≡ length l) → prepend o p ≡ some b → length b + length b ≡ suc (suc (length l))
    go none p ih d = absurd (not_some d)
    go (some n) none ih d = absurd (not_some d)
    go (some n) (some c) ih d = let same : n ∷ c ≡ b = cc in omega (arith, ih c refl, ap length same)

-- twice as many digits as bytes
at_most_few : (l : List ℕ) → length l ≤ most_bytes + most_bytes → at_most most_bytes (pairs l) ≡ pairs l
at_most_few l h = go (pairs l) refl
  where
    go : (o : Option (List ℕ)) → pairs l ≡ o → at_most most_bytes o ≡ o
    go none e = refl
    go (some b) e = rw (le-leb (length b) most_bytes (omega (arith, pairs-length l b e)))

at_most_many : (l : List ℕ) → most_bytes + most_bytes < length l → at_most most_bytes (pairs l) ≡ none
at_most_many l h = go (pairs l) refl
  where
    go : (o : Option (List ℕ)) → pairs l ≡ o → at_most most_bytes o ≡ none
    go none e = refl
    go (some b) e = rw (lt-leb (length b) most_bytes (omega (arith, pairs-length l b e)))

pub bytes_long : (w : List ℕ) → most_bytes + most_bytes < length w → bytes w ≡ none
bytes_long [] h = absurd (omega arith)
bytes_long (x ∷ []) h = absurd (omega arith)
bytes_long (x ∷ y ∷ l) h = rw (same_long (x ∷ y ∷ l) (ascii "-") (omega arith), at_most_many (x ∷ y ∷ l) h)

pub bytes_pairs : (w : List ℕ) → same w (ascii "-") ≡ false → 0 < length w → length w ≤ most_bytes + most_bytes → bytes w ≡ pairs w
bytes_pairs [] e h k = absurd (omega arith)
bytes_pairs (x ∷ l) e h k = rw e (at_most_few (x ∷ l) k)
