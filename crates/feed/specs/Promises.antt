-- The words in which the private functions promise what they give.
-- Assumes nothing.
use Rattle.std.specs.Prelude.{ℕ, ◌+◌, List, [], ◌∷◌, ◌++◌, ◌≡◌, length, take, drop, Option}
use Rattle.script.specs.Grammar.{order}
use Rattle.answers.specs.Written.{laid}
use Rattle.desk.specs.Line.{Answered}
use Rattle.desk.specs.declared.Turn.{Turn}
use Rattle.feed.specs.Cut.{newline}
use Rattle.feed.specs.declared.Fed.{Fed}

-- the line l is answered, and the text and its newline are laid behind what t has written
pub record AnsweredBehind (l store out : List ℕ) (t : Turn) (store' out' : List ℕ) (r : Turn) : Type 0 where
  pub text : List ℕ
  pub answered : Answered store t.desk (order l) r.desk store' text
  pub counted : r.length ≡ t.length + (length text + 1)
  pub area : out' ≡ take t.length out ++ laid (text ++ (newline ∷ [])) (drop t.length out)

-- what goes on after t, with so many bytes held and used
abbrev pub fed_so_far : Turn → Option ℕ → ℕ → Fed
fed_so_far t held used = record { next = record { desk = t.desk; held = held }; used = used; wrote = t.length }
