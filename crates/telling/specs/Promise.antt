-- What is told, in a lent area: which text, whether it is what was asked for, and the faults that every question about a stored state has.
-- Assumes nothing.
use Rattle.std.specs.Prelude.{ℕ, ◌≤◌, Bool, true, false, List, Result, Ok, Err, eqb, length, cond}
use Rattle.answers.specs.Ascii.{ascii}
use Rattle.answers.specs.Written.{Written}

-- ---- the faults

abbrev pub no_state : List ℕ
no_state = ascii "There is no state on standard input."

abbrev pub not_sound : List ℕ
not_sound = ascii "This is not a sound state: it is damaged, or no state area at all."

-- ---- whether it is what was asked for, and which text it is

pub data Refused (words : List ℕ) : Bool → List ℕ → Type 0 where
  refused : Refused words false words

-- an input of no bytes is no state; of any other it is told what is meant
abbrev pub OfInput : List ℕ → (Bool → List ℕ → Type 0) → Bool → List ℕ → Type 0
OfInput area Is good text = cond (eqb (length area) 0) (Refused no_state good text) (Is good text)

abbrev pub Told : Type 0
Told = Result ℕ ℕ

-- whether a text is what was asked for
abbrev pub good : Told → Bool
good (Ok n) = true
good (Err n) = false

-- how many bytes the text takes
abbrev pub long : Told → ℕ
long (Ok n) = n
long (Err n) = n

-- the text that is meant, which a room of so many bytes takes, is written over the start of the area `old`
pub record Gives (room : ℕ) (Is : Bool → List ℕ → Type 0) (old new : List ℕ) (r : Told) : Type 0 where
  pub text : List ℕ
  pub is : Is (good r) text
  pub short : length text ≤ room
  pub written : Written text old new (long r)
