-- The count of messages: what one call does to a mailbox, and so any calls.
-- Assumes nothing.
use Prim.Native.Nat.{ℕ, ◌+◌}
use mathlib.Core.Path.{◌≡◌}
use mathlib.Core.Bool.{false}
use mathlib.Core.List.{List, [], ◌∷◌}
use native.Mathlib.Omega.{arith}
use lib.ListN.{length}
use lib.Dec.{eqb}
use Rattle.plain.specs.State.{Settings, State, start}
use Rattle.plain.specs.Calls.{Call, Refusal, refused, perform, refusals, step, after}
use Rattle.plain_laws.specs.History.{kind, Kind, sent, gone, dropped}
use Rattle.plain_laws.proofs.Accepted.{Even, accepts}
use Rattle.plain_laws.proofs.Refusals.{judge_cases, nonzero}

-- a refused call counts nowhere
refused_even : (m : ℕ) (s : State) (i : Kind) (r : Refusal) → eqb r.code 0 ≡ false → Even m s i (refused r s)
refused_even m s i r e = rw e (omega arith)

step_even : (m : ℕ) (s : State) (c : Call) → Even m s (kind c) (step s c)
unfolding step
step_even m s c = judge_cases (Even m s (kind c)) (refusals s c) s (perform s c) (nonzero s c) (λ r e. refused_even m s (kind c) r e) (λ p. (accepts s c).even m)

counted : (m : ℕ) (s : State) (cs : List Call) → sent m s cs + length (s.box m) ≡ length ((after s cs).box m) + gone m s cs + dropped m s cs
unfolding sent gone dropped after
counted m s [] = omega arith
counted m s (c ∷ cs) = omega (arith, step_even m s c, counted m (step s c).next cs)

pub counted_from_start : (x : Settings) (m : ℕ) (cs : List Call) → sent m (start x) cs ≡ length ((after (start x) cs).box m) + gone m (start x) cs + dropped m (start x) cs
counted_from_start x m cs = omega (arith, counted m (start x) cs)
