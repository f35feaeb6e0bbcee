-- `chains::walked::walk` meets its contract. Assumes nothing.
use Rattle.chains.proofs.Reading.{reached_none, reached_on, reached_shut, reached_end, reached_open}
use Rattle.chains.proofs.walked.walk.Goals as goal
use Rattle.bits.specs.Word.{bits}
use Rattle.chains.specs.Chained.{Walked}
use Rattle.chains.specs.Links.{num}
use Rattle.rings.proofs.Decisions.{decides, decides_then_some}
use borrow.Author.Rules.{rules}
use borrow.Author.Tests.{eqb-true, eqb-false}
use mathlib.Core.List.{map}
use mathlib.Core.Path.{◌≡◌, refl, sym, ◌∙◌}
use native.Mathlib.Omega.{arith}

pub loop-init : goal.loop-init
loop-init c = record { byte = search rules; reached = reached_none _ c.args.b.0 _ c.args.todo c.ranges.todo.fits (λ p. refl) }

pub returns-then-not-has_bit : goal.returns-then-not-has_bit
returns-then-not-has_bit c =
    let l = c.loop in
    reached_shut _ _ _ l.counter l.x.0 l.last.0 l.left l.invariant.reached c.args.n c.loop-test.true (sym c.has_bit.ensures ∙ c.if-not-has_bit.true)

pub loop-preserved : goal.loop-preserved
loop-preserved c =
    let l = c.loop in
    record { byte = search rules; reached = reached_on _ _ _ l.counter l.x.0 l.last.0 l.left l.invariant.reached (sym c.has_bit.ensures ∙ c.if-not-has_bit.false) _ c.put_bit-left.ensures _ c.next-x.ensures }

pub returns : goal.returns
returns c =
    let l = c.loop in
    let all : l.counter ≡ c.args.n = omega arith in
    rw (c.then_some.ensures, ← all) (decides_then_some (Walked (map num c.args.chain.now) l.counter c.args.b.0 (bits c.args.todo)) c.eq.result l.left
    (reached_end _ _ _ l.counter l.x.0 l.last.0 l.left l.invariant.reached)
    (reached_open _ _ _ l.counter l.x.0 l.last.0 l.left l.invariant.reached)
    (decides c.eq.result (λ e. eqb-true _ _ (sym c.eq.ensures ∙ e)) (λ e. eqb-false _ _ (sym c.eq.ensures ∙ e))))
