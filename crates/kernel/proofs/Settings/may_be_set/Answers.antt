-- `kernel::Settings::may_be_set` meets its contract. Assumes nothing.
use Rattle.kernel.proofs.Setting.{no_slice_lem, some_slice}
use Rattle.kernel.proofs.Settings.may_be_set.Goals as goal
use borrow.Author.Rules.{rules}
use mir.Syntax.{w8}
use mir.Val.{Fits}
use native.Mathlib.Omega.{arith}

pub returns-then-self-eq0 : goal.returns-then-self-eq0
returns-then-self-eq0 c = no_slice_lem c.args.self c.if-self-eq0.true

pub returns : goal.returns
returns c =
    let low : Fits w8 c.args.self.slice = search rules in
    some_slice c.args.self c.if-self-eq0.false (omega (arith, low.fits)) c.may_be_set.result c.may_be_set.ensures
