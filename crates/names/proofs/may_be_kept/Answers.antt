-- `names::may_be_kept` meets its contract. Assumes nothing.
use Prim.Native.Nat.{ℕ}
use Rattle.names.proofs.Laws.{null_unborn}
use Rattle.names.proofs.may_be_kept.Goals as goal
use Rattle.plain.specs.Sizes.{processes}
use borrow.Author.Rules.{rules}
use lib.ListN.{length, get_or}
use mathlib.Core.Path.{◌≡◌}
use mir.Syntax.{w8}
use mir.Val.{Fits}
use native.Mathlib.Omega.{arith}

pub returns : goal.returns
returns c =
    let long : length c.args.births ≡ processes = search rules in
    let low : (p : ℕ) → Fits w8 (get_or c.args.births p 0) = λ p. search rules in
    null_unborn c.args.births long (λ p. omega (arith, (low p).fits))
