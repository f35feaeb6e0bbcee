-- The theorems: a word and an area say the text, and there is room for every text.
-- Assumes nothing.
use Prim.Native.Nat.{ℕ}
use mathlib.Core.Bool.{Bool, true≢false}
use mathlib.Core.List.{List}
use mathlib.Core.Option.{Option, none, some}
use mathlib.Core.Path.{refl, sym, ◌∙◌}
use Rattle.script.specs.Grammar.{number}
use Rattle.telling.specs.Theorems.{Same, One}
use Rattle.telling.proofs.Theorems.{one_fault, one_of_input, one_told, text_fits}
use Rattle.wording.specs.Promises.{room}
use Rattle.why.specs.Promise.{no_number, Explained, unsound, nobody, known, Tells}
use Rattle.why.specs.Theorems.{OneText, EveryTextFits}

one-reason : {area text₁ text₂ : List ℕ} {n : ℕ} {good₁ good₂ : Bool} → Explained area n good₁ text₁ → Explained area n good₂ text₂ → Same good₁ good₂ text₁ text₂
one-reason (unsound d) (unsound m) = record { good = refl; text = refl }
one-reason (unsound d) (nobody j h) = absurd (d j)
one-reason (unsound d) (known j k) = absurd (d j)
one-reason (nobody i h) (unsound m) = absurd (m i)
one-reason (nobody i h) (nobody j h') = record { good = refl; text = refl }
one-reason (nobody i h) (known j k) = absurd (true≢false (sym (k i.0 i.1 i.2).0 ∙ h i.0 i.1 i.2))
one-reason (known i h) (unsound m) = absurd (m i)
one-reason (known i h) (nobody j k) = absurd (true≢false (sym (h i.0 i.1 i.2).0 ∙ k i.0 i.1 i.2))
one-reason (known i h) (known j k) = record { good = refl; text = (h i.0 i.1 i.2).1 ∙ sym (k i.0 i.1 i.2).1 }

one_answer : (area : List ℕ) (o : Option ℕ) → One (Tells area o)
one_answer area none = one_fault no_number
one_answer area (some n) = one_of_input area (Explained area n) (λ _ _ _ _. one-reason)

pub one_text : OneText
one_text area word = one_told (Tells area (number word)) (one_answer area (number word)) room

pub every_text_fits : EveryTextFits
every_text_fits area word = text_fits (Tells area (number word)) room
