-- `script::hex::put_bytes` meets its contract. The loop's invariant: the first `i` bytes are laid over the area.
-- Assumes nothing.
use Rattle.answers.specs.Written.{laid}
use Rattle.script.proofs.hex.put_bytes.Given as goal
use Rattle.script.specs.Spelled.{spelled}
use Rattle.std.proofs.Common.{◌≡◌, take}

abbrev pub invariant-loop-i : goal.invariant-loop-i
invariant-loop-i l = l.out ≡ laid (take l.i (spelled l.w)) l.initial.out
