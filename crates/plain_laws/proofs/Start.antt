-- The fresh start: it is refused exactly where its settings may not be set, and leads to a sound state in any case.
-- Assumes nothing.
use Prim.Native.Nat.{ℕ}
use mathlib.Core.Bool.{true, false, true≢false}
use mathlib.Core.Logic.{⊎_elim}
use mathlib.Core.Path.{◌≡◌, refl, sym, ◌∙◌}
use native.Mathlib.Omega.{arith}
use lib.Dec.{ltb, eqb}
use borrow.Author.Tests.{eqb-false, ltb-false, ne_eqb, le-ltb}
use Rattle.std.proofs.lemmas.Bool.{cases_Bool, or_parts}
use Rattle.plain.specs.Calls.{Outcome, done, refused}
use Rattle.plain.specs.Sound.{Sound}
use Rattle.plain.specs.Start.{Set, longest_slice, slice_of, no_slice, fresh_start}
use Rattle.plain.specs.State.{start, usual, fresh}
use Rattle.plain_laws.proofs.Relief.{usual-habits}
use Rattle.plain_laws.proofs.Sound.{usual_set, start_sound}

module _ (n : ℕ) where
  pub set-passes : Set (slice_of n) → (no_slice n).holds ≡ false
  set-passes z = rw (ne_eqb n 0 (λ e. omega (arith, z.some_ticks)), le-ltb longest_slice n z.not_over) refl

  pub passes-set : (no_slice n).holds ≡ false → Set (slice_of n)
  passes-set e =
      let a = or_parts (eqb n 0) (ltb longest_slice n) e in
      let z = eqb-false n 0 a.0 in
      record { some_ticks = omega arith; not_over = ltb-false longest_slice n a.1; habits = usual-habits }

  -- it is refused, or begins
  pub start_cases : (P : Outcome → Type 0) → ((Set (slice_of n) → ⊥) → P (refused (no_slice n) fresh)) → (Set (slice_of n) → P (done 0 (start (slice_of n)))) → P (fresh_start n)
  unfolding fresh_start
  start_cases P f g = ⊎_elim
      (λ (e : (no_slice n).holds ≡ true). rw e (f (λ z. true≢false (sym e ∙ set-passes z))))
      (λ (e : (no_slice n).holds ≡ false). rw e (g (passes-set e)))
      (cases_Bool (no_slice n).holds)

  pub start_taken : Set (slice_of n) → fresh_start n ≡ done 0 (start (slice_of n))
  start_taken z = start_cases (λ o. o ≡ done 0 (start (slice_of n))) (λ y. absurd (y z)) (λ z. refl)

  pub start-refused : (Set (slice_of n) → ⊥) → fresh_start n ≡ refused (no_slice n) fresh
  start-refused y = start_cases (λ o. o ≡ refused (no_slice n) fresh) (λ y. refl) (λ z. absurd (y z))

  pub begun_sound : Sound (fresh_start n).next
  begun_sound = start_cases (λ o. Sound o.next) (λ y. start_sound usual usual_set) (λ z. start_sound (slice_of n) z)
