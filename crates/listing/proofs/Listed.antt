-- From the sheet to the promise: the rows that it allows have room, and written into a table they are those of the promise.
-- Assumes nothing.
use Prim.Native.Nat.{ℕ, ◌+◌, ◌-◌, ◌≤◌}
use mathlib.Core.Bool.{Bool, true, false, true≢false}
use mathlib.Core.List.{List, ◌++◌}
use mathlib.Core.Path.{◌≡◌, refl, sym, ap, ◌∙◌, subst}
use native.Mathlib.Omega.{arith}
use lib.Dec.{ltb}
use lib.ListN.{length, get_or, drop, length-append, get_or-append}
use borrow.Author.Tests.{ltb-true, ltb-false}
use Rattle.std.specs.Prelude.{Option, Some, None, is_some, if◌then◌else◌}
use Rattle.std.proofs.lemmas.List.{get_or-append_right, get_or-drop}
use Rattle.std.proofs.Common.{length-drop}
use Rattle.plain.specs.Listing.{row, listing}
use Rattle.plain.specs.Sizes.{processes}
use Rattle.plain.specs.State.{State}
use Rattle.plain_laws.specs.History.{is_done}
use Rattle.promise.specs.Promise.{sound, unsound}
use Rattle.rows.specs.Row.{as_row, Each}
use Rattle.rows.specs.declared.Row.{Row}
use Rattle.listing.specs.Listed.{Lists}
use Rattle.listing.specs.Sheets.{Ruled, Sheets}
use Rattle.listing.specs.declared.Sheet.{Sheet}

-- a listing is not refused only where the table has a row for each process
has_room : (s : State) (m : ℕ) → is_done (listing s m) ≡ true → processes ≤ m
unfolding listing
has_room s m e = go (ltb m processes) refl
  where
    go : (b : Bool) → ltb m processes ≡ b → processes ≤ m
    go true t = absurd (true≢false (sym (rw t at e)))
    go false t = ltb-false m processes t

some≢none : {A : Type 0} {x : A} → Some x ≡ None → ⊥
some≢none e = true≢false (ap is_some e)

-- what a sheet says of a state that lies in the area, by the rows that it has
ruled : (s : State) (m : ℕ) {o o' : Option (List Row)} → o ≡ o' → Ruled s m o → Ruled s m o'
ruled s m e r = subst (Ruled s m) e r

module _ {area : List ℕ} (m : ℕ) {l : Sheet} (table : List Row) (e : l.rows ≡ Some table) where
  -- a sheet has rows only for a table with a row for each process, and it has so many
  pub room : Sheets area m l → processes ≤ m
  room (sound i h) = has_room i.0 m (ruled i.0 m e (h i.0 i.1 i.2).1).0
  room (unsound n k a none) = absurd (some≢none (sym e ∙ none))

  pub long : Sheets area m l → length table ≡ processes
  long (sound i h) = (ruled i.0 m e (h i.0 i.1 i.2).1).1.long
  long (unsound n k a none) = absurd (some≢none (sym e ∙ none))

-- what stands at each index of the rows and, behind them, of a table that has room for them
at : (s : State) (ys table : List Row) → Each (λ i. as_row (row s i)) table → (i : ℕ) (d : Row) → get_or (table ++ drop processes ys) i d ≡ (if ltb i processes then as_row (row s i) else get_or ys i d)
at s ys table e i d = go (ltb i processes) refl
  where
    go : (t : Bool) → ltb i processes ≡ t → get_or (table ++ drop processes ys) i d ≡ (if t then as_row (row s i) else get_or ys i d)
    go true t = let p = ltb-true i processes t in get_or-append table (drop processes ys) d i (omega (arith, p, e.long)) ∙ e.at i d p
    go false t =
        let p : processes ≤ i = ltb-false i processes t in
        let past : processes + (i - processes) ≡ i = omega (arith, p) in
        get_or-append_right table (drop processes ys) processes i d e.long p ∙ get_or-drop processes ys (i - processes) d ∙ ap (λ (j : ℕ). get_or ys j d) past

module _ {area : List ℕ} (ys : List Row) {l : Sheet} (p : Sheets area (length ys) l) where
  -- the rows of a sheet, written over the first of a table, and its answer are those of the promise
  pub listed : (table : List Row) → l.rows ≡ Some table → Lists ys (table ++ drop processes ys) area l.answer
  listed table e = go p
    where
      fits : processes ≤ length ys
      fits = room (length ys) table e p

      whole : length (table ++ drop processes ys) ≡ length ys
      whole = omega (arith, length-append table (drop processes ys), length-drop processes ys, long (length ys) table e p, fits)

      go : Sheets area (length ys) l → Lists ys (table ++ drop processes ys) area l.answer
      go (sound i h) = sound i (λ s H S. let g = h s H S in let r = ruled s (length ys) e g.1 in (g.0, record { long = whole; at = λ j d. rw r.0 (at s ys table r.1 j d) }))
      go (unsound n k a none) = absurd (some≢none (sym e ∙ none))

  -- where a sheet has none, the table as it was
  pub unlisted : l.rows ≡ None → Lists ys ys area l.answer
  unlisted e = go p
    where
      go : Sheets area (length ys) l → Lists ys ys area l.answer
      go (sound i h) = sound i (λ s H S. let g = h s H S in (g.0, record { long = refl; at = λ j d. rw (ruled s (length ys) e g.1) refl }))
      go (unsound n k a none) = unsound n k a refl
