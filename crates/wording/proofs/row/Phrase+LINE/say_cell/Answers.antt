-- `wording::row::Phrase+LINE::say_cell` meets its contract.
-- Assumes nothing.
use Prim.Native.Nat.{ℕ, ◌-◌}
use Rattle.answers.specs.Ascii.{space}
use Rattle.wording.proofs.PageLaws.{more-space}
use Rattle.wording.proofs.row.Phrase+LINE.say_cell.Goals as goal
use Rattle.wording.specs.Page.{cell}
use Rattle.wording.specs.Promises.{more}
use lib.ListN.{length}
use mathlib.Core.List.{List, append-nil, ◌∷◌, []}
use mathlib.Core.Path.{◌≡◌, ap, ◌∙◌}
use native.Mathlib.Omega.{arith}

pub loop-init : goal.loop-init
loop-init c =
    let text = c.args.text in
    let whole = c.text-text.ensures.whole in
    let same : length c.text-text.result.now ≡ length text = ap (λ (l : List ℕ). length l) whole in
    let none : length text - length text ≡ 0 = omega arith in
    (omega arith, rw (whole, none, append-nil) (c.say-line.ensures ∙ ap (more c.args.self) whole))

pub loop-preserved : goal.loop-preserved
loop-preserved c =
    let l = c.loop in
    let same : length c.text-text.result.now ≡ length c.args.text = ap (λ (x : List ℕ). length x) c.text-text.ensures.whole in
    (omega arith, c.say-line-in-loop.ensures ∙ ap (λ (s : List ℕ). more s (space ∷ [])) l.invariant.1 ∙ more-space c.args.self c.args.text l.counter (omega arith))

pub returns : goal.returns
unfolding cell
returns c =
    let l = c.loop in
    let text = c.args.text in
    let all : l.counter - length text ≡ c.args.width - length text = omega arith in
    rw (← all) l.invariant.1
