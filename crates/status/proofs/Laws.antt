-- Laws of what is told: a sheet of the rows, and the names by the birth counts that are read, in the words of the promise. With a row for each process only a state that is not sound is refused.
-- Assumes nothing.
use Prim.Native.Nat.{ℕ}
use mathlib.Core.Bool.{Bool, true, true≢false}
use mathlib.Core.List.{List}
use mathlib.Core.Path.{◌≡◌, refl, sym, ap, ◌∙◌, subst}
use lib.ListN.{length}
use Rattle.std.specs.Prelude.{Some, None, is_some}
use Rattle.plain.specs.Listing as Plain
use Rattle.plain.specs.Names.{name}
use Rattle.plain.specs.Sizes.{processes}
use Rattle.plain.specs.State.{State}
use Rattle.plain_laws.specs.History.{is_done}
use Rattle.promise.specs.Promise as Promise
use Rattle.kernel.specs.declared.Kernel.{Kernel}
use Rattle.names.specs.Counts.{count_in}
use Rattle.names.proofs.Laws.{counts_are}
use Rattle.image.specs.Image.{Sized, Read}
use Rattle.image.proofs.Theorems.{one_to_one}
use Rattle.board.specs.Area.{Lies}
use Rattle.board.proofs.Calls.{inside}
use Rattle.rows.specs.Row.{as_row, bare, Each}
use Rattle.rows.specs.declared.Row.{Row}
use Rattle.listing.specs.Sheets.{Ruled, Sheets}
use Rattle.listing.specs.declared.Sheet.{Sheet}
use Rattle.telling.specs.Promise.{not_sound, Refused, refused}
use Rattle.wording.specs.Page.{page, row_at}
use Rattle.wording.proofs.PageLaws.{page-same}
use Rattle.status.specs.Promise.{Shown, unsound, known}

listed : (s : State) → is_done (Plain.listing s processes) ≡ true
unfolding Plain.listing
listed s = refl

-- the page of the rows that are given
plain_rows : (names : ℕ → ℕ) (s : State) (rows : List Row) → Each (λ i. as_row (Plain.row s i)) rows → page names (row_at rows) ≡ page names (λ i. as_row (Plain.row s i))
plain_rows names s rows e = page-same names (row_at rows) (λ i. as_row (Plain.row s i)) (λ i low. e.at i (bare 0) low)

-- the birth counts of the kernel that is read are those of the state that lies in the area
plain_births : {area : List ℕ} {k : Kernel} {s : State} → Sized k → Read area k → Lies area s → count_in k.births ≡ s.births
plain_births {k = k} z r a = counts_are (inside k z (r.whole (sym (ap length a.bytes) ∙ one_to_one.long a.kernel a.sized)) a).births

module _ (area : List ℕ) (l : Sheet) where
  pub is_known : {k : Kernel} → Sized k → Read area k → (rows : List Row) → l.rows ≡ Some rows → Sheets area processes l → Shown area true (page (name (count_in k.births)) (row_at rows))
  is_known {k} z r rows e (Promise.sound i h) = known i (λ s a S.
      let ruled : Ruled s processes (Some rows) = subst (Ruled s processes) e (h s a S).1 in
      plain_rows (name (count_in k.births)) s rows ruled.1 ∙ ap (λ (b : ℕ → ℕ). page (name b) (λ i. as_row (Plain.row s i))) (plain_births z r a))
  is_known z r rows e (Promise.unsound n m a none) = absurd (true≢false (ap is_some (sym e ∙ none)))

  pub is_not_sound : l.rows ≡ None → Sheets area processes l → (good : Bool) (text : List ℕ) → Refused not_sound good text → Shown area good text
  is_not_sound e (Promise.sound i h) good text r =
      let ruled : Ruled i.0 processes None = subst (Ruled i.0 processes) e (h i.0 i.1 i.2).1 in
      absurd (true≢false (sym (listed i.0) ∙ ruled))
  is_not_sound e (Promise.unsound n m a none) good text refused = unsound n
