-- `chains::singles::in_byte` meets its contract. Assumes nothing.
use Prim.Native.Nat.{ℕ, ◌%◌}
use Rattle.bits.specs.Word.{bits}
use Rattle.chains.proofs.Bits.{byte-bit, mask_tested}
use Rattle.chains.proofs.singles.in_byte.Goals as goal
use mathlib.Core.Path.{ap, ◌∙◌}
use native.Mathlib.Omega.{arith}

pub returns : goal.returns
returns c =
    let a = c.args in
    λ h. mask_tested 8 c.byte_of.result (a.b % 8) (omega arith) ∙ ap (λ (x : ℕ). bits x (a.b % 8)) c.byte_of.ensures ∙ byte-bit a.w a.b h
