-- What a good line keeps to: a room of at most the largest, and a message of at most so many bytes, which its last digits spell.
-- Assumes nothing.
use Prim.Native.Nat.{ℕ, ◌+◌, ◌-◌, ◌≤◌}
use Prim.Native.String.{String}
use mathlib.Core.Path.{◌≡◌, refl, ap, subst, ◌∙◌}
use mathlib.Core.Bool.{Bool, true, false}
use mathlib.Core.List.{List, [], ◌∷◌, ◌++◌}
use mathlib.Core.Option.{Option, none, some}
use native.Mathlib.Omega.{arith}
use lib.ListN.{length, length-append}
use lib.Seq.{drop-append_seam, drop-length}
use lib.Dec.{leb, ltb}
use borrow.Author.Rules.{rules}
use borrow.Author.Tests.{leb-true}
use Rattle.std.specs.Prelude as Code
use Rattle.std.specs.Prelude.{if◌then◌else◌, Some, None}
use Rattle.plain.specs.Calls.{send, read}
use Rattle.answers.specs.Ascii.{ascii}
use Rattle.script.specs.Grammar.{Order, does, longest_line, largest_room, most_bytes, words, same, number, pairs, at_most, bytes, beside, alone, reading, numbered, followed, thrice, given, sentence, order}
use Rattle.script.specs.Spelled.{spelled, lastly}
use Rattle.script.specs.Promises.{sending}
use Rattle.script.specs.Request.{meaning, word_of}
use Rattle.script.specs.declared.calls.Word.{Word}
use Rattle.script.specs.declared.calls.Word.TheVariants.{Call, Send, Read, Why, Slice}
use Rattle.script.proofs.NumberLaws.{not_some}
use Rattle.script.proofs.HexLaws.{pairs-length, spelled-pairs}
use Rattle.script.proofs.WordLaws.{Ends, ends}

-- the message of a word is not too long and spelled in the line, and its room is no larger than the largest
abbrev pub Fits : List ℕ → Code.Option Word → Type 0
Fits line None = Unit {0}
Fits line (Some (Call q)) = Unit {0}
Fits line (Some (Send m n)) = (n ≤ most_bytes) × (n + n ≤ length line)
Fits line (Some (Read n)) = n ≤ largest_room
Fits line (Some (Why n)) = Unit {0}
Fits line (Some (Slice n)) = Unit {0}

-- the word of an order means it in the line
pub record Limited (line : List ℕ) (c : Option Order) : Type 0 where
  pub meaning : meaning (word_of c) line ≡ c
  pub fits : Fits line (word_of c)

-- ---- the bytes of a send

at_most_short : (k : ℕ) (o : Option (List ℕ)) (b : List ℕ) → at_most k o ≡ some b → (o ≡ some b) × (length b ≤ k)
at_most_short k none b e = absurd (not_some e)
at_most_short k (some c) b e = go (leb (length c) k) refl e
  where
    go : (t : Bool) → leb (length c) k ≡ t → (if t then some c else none) ≡ some b → (some c ≡ some b) × (length b ≤ k)
    go true h d = let same : c ≡ b = cc in (ap some same, omega (arith, ap length same, leb-true (length c) k h))
    go false h d = absurd (not_some d)

-- b is short, and the last digits of the line spell it
record Carries (line b : List ℕ) : Type 0 where
  short : length b ≤ most_bytes
  inside : length b + length b ≤ length line
  there : spelled (lastly (length b + length b) line) ≡ b

module _ (line p : List ℕ) where
  none_carried : Carries line []
  none_carried =
      let start : length line - 0 ≡ length line = omega arith in
      record { short = omega arith; inside = omega arith; there = rw (start, drop-length line) refl }

  carries : (w b : List ℕ) → line ≡ p ++ w → bytes w ≡ some b → Carries line b
  carries [] b e d = absurd (not_some d)
  carries (x ∷ l) b e d = go (same (x ∷ l) (ascii "-")) d
    where
      w : List ℕ
      w = x ∷ l

      go : (t : Bool) → (if t then some [] else at_most most_bytes (pairs w)) ≡ some b → Carries line b
      go true f = let same : [] ≡ b = cc in subst (Carries line) same none_carried
      go false f =
          let read = at_most_short most_bytes (pairs w) b f in
          let twice : length b + length b ≡ length w = pairs-length w b read.0 in
          let long : length line ≡ length p + length w = ap length e ∙ length-append p w in
          let start : length line - (length b + length b) ≡ length p = omega arith in
          record {
            short = read.1;
            inside = omega arith;
            there = rw (start, e, drop-append_seam p w) (spelled-pairs w b read.0);
          }

-- ---- every order

module _ (line : List ℕ) where
  either : (t : Bool) {a b : Option Order} → Limited line a → Limited line b → Limited line (if t then a else b)
  either true p q = p
  either false p q = q

  bad_limited : Limited line none
  bad_limited = record { meaning = refl; fits = tt }

  abbrev AllLimited : List (String × Option Order) → Type 0
  AllLimited [] = Unit {0}
  AllLimited (x ∷ l) = Limited line x.1 × AllLimited l

  beside_limited : (w : List ℕ) (l : List (String × Option Order)) → AllLimited l → Limited line (beside w l)
  beside_limited w [] p = bad_limited
  beside_limited w (x ∷ l) p = either (same w (ascii x.0)) p.0 (beside_limited w l p.1)

  reading_limited : (n : ℕ) → Limited line (reading n)
  reading_limited n = go (leb n largest_room) refl
    where
      go : (t : Bool) → leb n largest_room ≡ t → Limited line (if t then some (does (read n)) else none)
      go true e = record { meaning = refl; fits = leb-true n largest_room e }
      go false e = bad_limited

  given_limited : {A : Type 0} (o : Option A) (f : A → Option Order) → ((x : A) → o ≡ some x → Limited line (f x)) → Limited line (given o f)
  given_limited none f h = bad_limited
  given_limited (some x) f h = h x refl

  sending_limited : (m : ℕ) (p w : List ℕ) → line ≡ p ++ w → Limited line (sending m w)
  sending_limited m p w e = given_limited (bytes w) _ (λ b d.
      let c = carries line p w b e d in
      record { meaning = ap (λ (x : List ℕ). some (does (send m x))) c.there; fits = (c.short, c.inside) })

  sentence_limited : (ws : List (List ℕ)) → Ends line ws → Limited line (sentence ws)
  sentence_limited [] e = bad_limited
  sentence_limited (w ∷ []) e = beside_limited w alone (search rules)
  sentence_limited (w ∷ x ∷ []) e = given_limited (number x) _ (λ n d. beside_limited w (numbered n) (search (rules, reading_limited n)))
  sentence_limited (w ∷ x ∷ y ∷ []) e = given_limited (number x) _ (λ n d. beside_limited w (followed n y) (sending_limited n e.0 y e.1, tt))
  sentence_limited (w ∷ x ∷ y ∷ z ∷ []) e = given_limited (number x) _ (λ a d. given_limited (number y) _ (λ b f. given_limited (number z) _ (λ c g. beside_limited w (thrice a b c) (search rules))))
  sentence_limited (w ∷ x ∷ y ∷ z ∷ v ∷ l) e = bad_limited

  pub order_limited : Limited line (order line)
  unfolding order
  order_limited = either (ltb longest_line (length line)) bad_limited (sentence_limited (words line) (ends line))
