-- The theorems: an area says the text, and there is room for every text.
-- Assumes nothing.
use Prim.Native.Nat.{ℕ}
use mathlib.Core.Bool.{Bool}
use mathlib.Core.List.{List}
use mathlib.Core.Path.{refl, sym, ◌∙◌}
use Rattle.telling.specs.Theorems.{Same}
use Rattle.telling.specs.Promise.{OfInput}
use Rattle.telling.proofs.Theorems.{one_of_input, one_told, text_fits}
use Rattle.wording.specs.Page.{page_room}
use Rattle.status.specs.Promise.{Shown, unsound, known}
use Rattle.status.specs.Theorems.{OneText, EveryTextFits}

one-page : {area text₁ text₂ : List ℕ} {good₁ good₂ : Bool} → Shown area good₁ text₁ → Shown area good₂ text₂ → Same good₁ good₂ text₁ text₂
one-page (unsound n) (unsound m) = record { good = refl; text = refl }
one-page (unsound n) (known j k) = absurd (n j)
one-page (known i h) (unsound m) = absurd (m i)
one-page (known i h) (known j k) = record { good = refl; text = h i.0 i.1 i.2 ∙ sym (k i.0 i.1 i.2) }

pub one_text : OneText
one_text area = one_told (OfInput area (Shown area)) (one_of_input area (Shown area) (λ _ _ _ _. one-page)) page_room

pub every_text_fits : EveryTextFits
every_text_fits area = text_fits (OfInput area (Shown area)) page_room
