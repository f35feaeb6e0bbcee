-- The seats as the loop asks for them, 0's as if it were unused, and that the runner is not unused: this is to have the seats of all.
-- For any slice n. Assumes nothing.
use Prim.Native.Nat.{ℕ, ◌^◌, ◌≤◌, ◌<◌}
use mathlib.Core.Path.{◌≡◌, refl, sym, ap, ◌∙◌}
use mathlib.Core.Bool.{Bool, true, false, true≢false}
use mathlib.Core.Logic.{◌≢◌, ⊎_elim}
use mathlib.Core.List.{List}
use native.Mathlib.Omega.{arith}
use lib.ListN.{get_or}
use lib.Dec.{eqb}
use borrow.Author.Tests.{eq-eqb, ne_eqb}
use Rattle.lists.specs.Lists.{put}
use Rattle.std.proofs.lemmas.Bool.{cases_eq}
use Rattle.lists.proofs.Laws.{le?, put_other}
use Rattle.bits.specs.Word.{width, word, bits}
use Rattle.bits.proofs.Words.{bits-word, bits_above}
use Rattle.plain.specs.Sizes.{processes}
use Rattle.seats.specs.Fits.{Seat, Asked, AllSeats}

module _ (n running : ℕ) (at class ticks : List ℕ) (unused : ℕ) where
  -- the seat of process i, and the same as it is asked, where its number counts as unused or not
  abbrev SeatOf : ℕ → Bool → Type 0
  SeatOf i b = Seat n (get_or at i 0) (eqb running i) (get_or class i 0) (get_or ticks i 0) b

  abbrev AskedOf : ℕ → Bool → Type 0
  AskedOf i b = Asked n (get_or at i 0) (eqb running i) (get_or class i 0) (get_or ticks i 0) b

  abbrev vacant : ℕ → Bool
  vacant = bits (word width (put (bits unused) 0 true))

  vacant_null : vacant 0 ≡ true
  vacant_null = bits-word width (put (bits unused) 0 true) 0 (omega arith)

  vacant_other : (i : ℕ) → 1 ≤ i → i < processes → vacant i ≡ bits unused i
  vacant_other i u h = bits-word width (put (bits unused) 0 true) i h ∙ put_other (bits unused) 0 true i (λ e. omega (arith, e))

  pub all_seats : bits unused 0 ≡ false → bits unused running ≡ false → ((i : ℕ) → i < processes → AskedOf i (vacant i)) → AllSeats n running at class ticks unused
  all_seats off used f = record {
    null_used = off;
    null = rw vacant_null at (f 0 (omega arith));
    others = λ p h u. seat p (bits unused p) refl (rw (vacant_other p u h) at (f p h));
  }
    where
      seat : (p : ℕ) (b : Bool) → bits unused p ≡ b → AskedOf p b → SeatOf p b
      seat p true e b = record { bare = b; rests = ne_eqb running p (λ r. true≢false (sym e ∙ (ap (bits unused) (sym r) ∙ used))) }
      seat p false e b = b

  pub each-asked : AllSeats n running at class ticks unused → (i : ℕ) → i < processes → AskedOf i (vacant i)
  each-asked s i h = ⊎_elim
      (λ (e : i ≡ 0). rw (e, vacant_null) s.null)
      (λ (e : i ≢ 0). rw (vacant_other i (omega arith) h) (asked (bits unused i) (s.others i h (omega arith))))
      (cases_eq i 0)
    where
      asked : (b : Bool) → SeatOf i b → AskedOf i b
      asked true v = v.bare
      asked false v = v

  pub runner-used : unused < 2 ^ width → AllSeats n running at class ticks unused → bits unused running ≡ false
  runner-used low s = ⊎_elim
      (λ (h : processes ≤ running). bits_above width unused running low h)
      (λ (h : running < processes). ⊎_elim (λ (e : running ≡ 0). rw e s.null_used) (λ (e : running ≢ 0). rests (bits unused running) (s.others running h (omega arith))) (cases_eq running 0))
      (le? processes running)
    where
      rests : (b : Bool) → SeatOf running b → b ≡ false
      rests true v = absurd (true≢false (sym (eq-eqb running running refl) ∙ v.rests))
      rests false v = refl
