-- Laws of numbers: digit by digit, and what an `Option` of the code tells of the number that was read.
-- Assumes nothing.
use Prim.Native.Nat.{ℕ, ◌+◌, ◌*◌, ◌-◌, ◌<◌}
use Prim.Native.Char.{code}
use mathlib.Core.Path.{◌≡◌, refl, ap, ◌∙◌}
use mathlib.Core.Bool.{Bool, true, false}
use mathlib.Core.List.{List, [], ◌∷◌}
use mathlib.Core.Option.{Option, none, some}
use native.Mathlib.Omega.{arith}
use lib.ListN.{length, get_or, drop}
use lib.Dec.{leb}
use borrow.Author.Tests.{leb-false, lt-leb}
use Rattle.std.specs.Prelude as Code
use Rattle.std.specs.Prelude.{if◌then◌else◌, Some, None}
use Rattle.script.specs.Grammar.{is_digit, digits, up_to, highest_number, number}
use Rattle.script.specs.Promises.{number_of, next_digit}
use Rattle.script.proofs.WordLaws.{step}

pub not_some : {A : Type 0} {x : A} → none ≡ some x → ⊥
not_some e = let z : ◌≡◌ {A = ℕ} 0 1 = cc in omega arith

pub number_none : {r : Code.Option ℕ} (o : Option ℕ) → r ≡ number_of o → r ≡ None → o ≡ none
number_none none a e = refl
number_none (some n) a e = cc

pub number_some : {r : Code.Option ℕ} {n : ℕ} (o : Option ℕ) → r ≡ number_of o → r ≡ Some n → o ≡ some n
number_some none a e = cc
number_some (some m) a e = cc

-- more digits never mean less
too_high : (l : List ℕ) (v : ℕ) → highest_number < v → up_to highest_number (digits v l) ≡ none
too_high [] v h = rw (lt-leb v highest_number h)
too_high (x ∷ l) v h =
    elim (is_digit x) as (λ (t : Bool). up_to highest_number (if t then digits (v * 10 + (x - code "0")) l else none) ≡ none) [
      | true ↦ too_high l (v * 10 + (x - code "0")) (omega arith)
      | false ↦ refl
    ]

abbrev onward : Option ℕ → List ℕ → Option ℕ
onward none l = none
onward (some n) l = up_to highest_number (digits n l)

digits_next : (v x : ℕ) (l : List ℕ) → up_to highest_number (digits v (x ∷ l)) ≡ onward (next_digit v x) l
digits_next v x l = go (is_digit x)
  where
    n : ℕ
    n = v * 10 + (x - code "0")

    high : (t : Bool) → leb n highest_number ≡ t → up_to highest_number (digits n l) ≡ onward (if t then some n else none) l
    high true e = refl
    high false e = too_high l n (leb-false n highest_number e)

    go : (t : Bool) → up_to highest_number (if t then digits n l else none) ≡ onward (up_to highest_number (if t then some n else none)) l
    go true = high (leb n highest_number) refl
    go false = refl

-- A turn of the loop that reads a number: v is what the first i digits mean, and o the answer to digit i.
pub digit-bad : (w : List ℕ) (v i : ℕ) {o : Code.Option ℕ} → i < length w → number w ≡ up_to highest_number (digits v (drop i w)) → o ≡ number_of (next_digit v (get_or w i 0)) → o ≡ None → number w ≡ none
digit-bad w v i inside inv answer e = let x = get_or w i 0 in
    inv
    ∙ ap (λ (l : List ℕ). up_to highest_number (digits v l)) (step w i inside)
    ∙ digits_next v x (drop (i + 1) w)
    ∙ ap (λ (p : Option ℕ). onward p (drop (i + 1) w)) (number_none (next_digit v x) answer e)
