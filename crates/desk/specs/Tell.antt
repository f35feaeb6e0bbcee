-- The words in which the private functions promise what they give.
-- Assumes nothing.
use Rattle.std.specs.Prelude.{ℕ, List, ◌≡◌}
use Rattle.answers.specs.Answer.{line}
use Rattle.answers.specs.Written.{Written}
use Rattle.kernel.specs.Promise.{said}
use Rattle.kernel.specs.declared.Done.{Done}
use Rattle.kernel.specs.declared.Kernel.{Kernel}
use Rattle.desk.specs.Line.{later_desk}
use Rattle.desk.specs.declared.Turn.{Turn}

-- a line has been read, the kernel is k, and so many bytes are written
abbrev pub turn_of : Kernel → ℕ → Turn
turn_of k n = record { desk = later_desk k; length = n }

-- the kernel that a call hands back, and the line of its answer
pub record Told (done : Done) (old new : List ℕ) (r : Turn) : Type 0 where
  pub desk : r.desk ≡ later_desk done.state
  pub written : Written (line (said done.answer)) old new r.length
