-- `bits::highest_bit` meets its contract: the logarithm rounded down is the number of the highest bit that is on.
-- Assumes nothing.
use Prim.Native.Nat.{ℕ, ◌*◌, ◌^◌, ◌≤◌, ◌<◌}
use Rattle.bits.proofs.Words.{bits_above, highest_none, highest_power}
use Rattle.bits.proofs.highest_bit.Goals as goal
use Rattle.bits.specs.Word.{width, bits, highest}
use Rattle.std.specs.Option.{IfNone, IfSome, unwrap_or}
use Rattle.std.specs.Prelude.{Option, Some, None}
use mathlib.Core.Path.{◌≡◌, sym, ◌∙◌}
use native.Mathlib.Nat.{pow-suc}
use native.Mathlib.Omega.{arith}

logarithm : (w : ℕ) (o : Option ℕ) → IfNone o (w ≡ 0) → IfSome o (λ k. 2 ^ k ≤ w) → IfSome o (λ k. w < 2 * 2 ^ k) → IfSome o (λ k. k < width)
    → unwrap_or o width ≡ highest width width (bits w)
logarithm w None z l u b = sym (highest_none width width (bits w) (λ i h. bits_above 0 w i (omega arith) (omega arith)))
logarithm w (Some k) z l u b = sym (highest_power width width k w b l (omega (arith, pow-suc 2 k)))

pub returns : goal.returns
returns c =
    let h = c.checked_ilog2 in
    c.unwrap_or.ensures ∙ logarithm c.args.w h.result h.ensures.none h.ensures.power_le h.ensures.next_power_gt h.ensures.bound
