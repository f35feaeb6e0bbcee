-- `answers::area::put_with_pairs` meets its contract.
-- Assumes nothing.
use Prim.Native.Nat.{◌-◌, ◌≤◌}
use Rattle.answers.proofs.AreaLaws.{written_none, written_all, written_fits, laid_behind, pairs-length}
use Rattle.answers.proofs.area.put_with_pairs.Goals as goal
use Rattle.answers.specs.Answer.{hex_pairs}
use lib.ListN.{length, length-append}
use mathlib.Core.List.{◌++◌}
use mathlib.Core.Path.{refl}
use native.Mathlib.Omega.{arith}

pub returns-then-out-n-2 : goal.returns-then-out-n-2
returns-then-out-n-2 c = let s = c.args in written_none _ s.out.now (simp (length-append, pairs-length) (omega arith))

pub returns : goal.returns
returns c =
    let s = c.args in
    let a = s.head.now in
    let b = hex_pairs s.message.now in
    let o = s.out.now in
    let first = c.put in
    let second = c.put_pairs in
    let fit : length (a ++ b) ≤ length o = simp (length-append, pairs-length) (omega arith) in
    let whole = laid_behind a b o first.new.out second.new.out (length a) (length first.new.out - length a) (written_fits a o first.new.out first.result first.ensures (omega arith)) refl refl second.ensures in
    written_all (a ++ b) o _ _ fit whole (simp (length-append, pairs-length) (omega arith))
