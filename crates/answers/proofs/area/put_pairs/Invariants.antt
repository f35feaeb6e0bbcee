-- `answers::area::put_pairs` meets its contract. The loop's invariant: the pairs of the first `i` bytes are laid over the area.
-- Assumes nothing.
use Rattle.answers.proofs.area.put_pairs.Given as goal
use Rattle.answers.specs.Answer.{hex_pairs}
use Rattle.answers.specs.Written.{laid}
use Rattle.std.proofs.Common.{◌≡◌, take}

abbrev pub invariant-loop-i : goal.invariant-loop-i
invariant-loop-i l = l.out ≡ laid (hex_pairs (take l.i l.message)) l.initial.out
