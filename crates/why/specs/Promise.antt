-- What a stagehand is told about a process of the state that lies in an area, or what is wrong with the question: the first of the faults in this order.
-- Assumes nothing.
use Rattle.std.specs.Prelude.{ℕ, Bool, true, false, List, ◌≡◌}
use Rattle.std.proofs.Math.Option.{Option, none, some}
use Rattle.plain.specs.Names.{bare, names}
use Rattle.plain.specs.Sound.{Sound}
use Rattle.plain.specs.State.{State}
use Rattle.plain.specs.Why.{reason}
use Rattle.answers.specs.Ascii.{ascii}
use Rattle.script.specs.Grammar.{number}
use Rattle.board.specs.Area.{Lies, IsSound}
use Rattle.wording.specs.Promises.{room}
use Rattle.wording.specs.Words.{sentence}
use Rattle.telling.specs.Promise.{not_sound, Refused, OfInput, Told, Gives}

-- ---- the faults of its own

abbrev pub no_number : List ℕ
no_number = ascii "Which process? Its name is wanted, as create answered it."

abbrev pub no_process : List ℕ
no_process = ascii "No process has this name now. The status page has the names."

-- ---- whether it is a reason, and which text it is

-- the sentence of the plain kernel's reason, where a sound state lies in the area and n is a name in it; the sentence is about the number in n
pub data Explained (area : List ℕ) (n : ℕ) : Bool → List ℕ → Type 0 where
  unsound : (IsSound area → ⊥) → Explained area n false not_sound
  nobody : IsSound area → ((s : State) → Lies area s → Sound s → names s.births n ≡ false) → Explained area n false no_process
  known : {text : List ℕ} → IsSound area → ((s : State) → Lies area s → Sound s → (names s.births n ≡ true) × (text ≡ sentence (bare n) (reason s (bare n)))) → Explained area n true text

abbrev pub Tells : List ℕ → Option ℕ → Bool → List ℕ → Type 0
Tells area none good text = Refused no_number good text
Tells area (some n) good text = OfInput area (Explained area n) good text

-- ---- the promise

-- for the area and the word that are given, a name being written as at the desk
abbrev pub Answers : List ℕ → List ℕ → List ℕ → List ℕ → Told → Type 0
Answers area word = Gives room (Tells area (number word))
