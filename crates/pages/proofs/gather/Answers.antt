-- `pages::gather` meets its contract. Assumes nothing.
use Prim.Native.Nat.{ℕ, ◌-◌}
use Rattle.chains.specs.Links.{num, run}
use Rattle.pages.proofs.Pieces.{filled_more, filled-last, filled-none}
use Rattle.pages.proofs.gather.Goals as goal
use Rattle.pages.specs.Pieces.{filled}
use Rattle.plain.specs.Pages.{needed}
use Rattle.plain.specs.Sizes.{buffer_size}
use mathlib.Core.List.{map}
use mathlib.Core.Path.{◌≡◌, sym, ap, ◌∙◌}
use native.Mathlib.Omega.{arith}

pub loop-at-init : goal.loop-at-init
loop-at-init c =
    let a = c.args in
    let e : a.size - 0 ≡ a.size = omega arith in
    ap (λ (n : ℕ). filled a.room.now 0 a.store.now (run (map num a.chain.now) (needed n) a.b.0) n) e

pub loop-at-preserved : goal.loop-at-preserved
unfolding buffer_size
loop-at-preserved c =
    let l = c.loop-at in
    let a = c.args in
    filled_more (map num a.chain.now) a.store.now l.room _ l.from.0 l.at a.size _ c.start_of.ensures _ c.min.ensures c.place_part.ensures _ c.next-from.ensures (omega arith) ∙ l.invariant

pub returns : goal.returns
returns c =
    let l = c.loop-at in
    let a = c.args in
    sym (filled-none (map num a.chain.now) a.store.now l.room l.from.0 l.at a.size c.loop-at-test.false) ∙ l.invariant

pub returns-2 : goal.returns-2
unfolding buffer_size
returns-2 c =
    let l = c.loop-at in
    let a = c.args in
    filled-last (map num a.chain.now) a.store.now l.room _ l.from.0 l.at a.size _ c.start_of.ensures _ c.min.ensures c.place_part.ensures (omega arith) ∙ l.invariant
