-- `script::hex::count_pairs` meets its contract: a turn of the loop reads two digits, or refuses the last one alone.
-- Assumes nothing.
use Prim.Native.Nat.{ℕ, ◌+◌, ◌*◌, ◌<◌}
use Rattle.script.proofs.HexLaws.{counted_none, counted-bad, counted-more, counted-all}
use Rattle.script.proofs.NumberLaws.{number_none, number_some}
use Rattle.script.proofs.WordLaws.{all_from}
use Rattle.script.proofs.hex.count_pairs.Goals as goal
use lib.ListN.{length, drop, length-drop}
use lib.Seq.{drop-drop}
use mathlib.Core.Path.{◌≡◌, sym, ◌∙◌}
use native.Mathlib.Omega.{arith}

pub loop-i-init : goal.loop-i-init
loop-i-init c = counted_none c.args.w.now

pub returns-in_err-pair : goal.returns-in_err-pair
returns-in_err-pair c =
    let w = c.args.w.now in
    let l = c.loop-i in
    let more : 0 < length (drop (2 * l.i) w) = omega (arith, length-drop (2 * l.i) w, c.div_ceil-i-end.ensures) in
    let none = number_none _ (rw all_from at c.pair.ensures) c.in_err-pair.was in
    rw (counted-bad w l.i (drop (2 * l.i) w) l.invariant more none) c.from_residual.ensures

pub loop-i-preserved : goal.loop-i-preserved
loop-i-preserved c =
    let w = c.args.w.now in
    let l = c.loop-i in
    let more : 0 < length (drop (2 * l.i) w) = omega (arith, length-drop (2 * l.i) w, c.div_ceil-i-end.ensures) in
    let found = number_some _ (rw all_from at c.pair.ensures) c.in_ok-pair.was in
    let on : 2 * (l.i + 1) ≡ 2 * l.i + 2 = omega arith in
    rw (on, sym (drop-drop 2 (2 * l.i) w)) (counted-more w l.i (drop (2 * l.i) w) l.invariant more _ found)

pub returns : goal.returns
returns c =
    let w = c.args.w.now in
    let l = c.loop-i in
    rw (counted-all w l.i (drop (2 * l.i) w) l.invariant (omega (arith, length-drop (2 * l.i) w, c.div_ceil-i-end.ensures)))
