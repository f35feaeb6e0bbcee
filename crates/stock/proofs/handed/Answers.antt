-- `stock::handed` meets its contract. The invariant: what comes of the hands that are left comes of all. Assumes nothing.
use Prim.Native.Nat.{◌<◌}
use Rattle.bits.specs.Word.{width}
use Rattle.boxes.specs.Box.{num}
use Rattle.chains.proofs.Words.{word_fits}
use Rattle.rings.proofs.Decisions.{decides_then_some}
use Rattle.rings.proofs.Units.{store, entry}
use Rattle.std.specs.Prelude.{Some, None}
use Rattle.stock.proofs.Hands.{all_empty, not_empty, one_full, fewer_full, not_loose, drawn}
use Rattle.stock.proofs.handed.Goals as goal
use Rattle.stock.specs.Tests.{Handed}
use borrow.Author.Rules.{rules}
use lib.ListN.{length-map, length-set}
use mathlib.Core.List.{map}
use mathlib.Core.Path.{refl, sym, ◌∙◌}
use native.Mathlib.Omega.{arith}

pub loop-todo-init : goal.loop-todo-init
loop-todo-init c = (search rules, search rules, search rules, λ r h. h)

pub bounds-rest-i : goal.bounds-rest-i
bounds-rest-i c = let l = c.loop-todo in omega (arith, one_full l.todo l.invariant.2 (λ e. omega arith))

pub returns-then-not-grasp : goal.returns-then-not-grasp
returns-then-not-grasp c =
    let l = c.loop-todo in
    let low : c.lowest_bit-p.result < width = omega (arith, one_full l.todo l.invariant.2 (λ e. omega arith)) in
    l.invariant.3 None (not_loose l.todo c.lowest_bit-p.result l.invariant.2 c.lowest_bit-p.ensures low l.s (map num l.rest) _ (sym (entry num (record { 0 = 0 }) refl l.rest _)) c.if-not-grasp.ensures.0)

pub bounds-rest-i-in-loop-todo : goal.bounds-rest-i-in-loop-todo
bounds-rest-i-in-loop-todo c = let l = c.loop-todo in omega (arith, one_full l.todo l.invariant.2 (λ e. omega arith))

pub loop-todo-smaller : goal.loop-todo-smaller
loop-todo-smaller c =
    let l = c.loop-todo in
    let low : c.lowest_bit-p.result < width = omega (arith, one_full l.todo l.invariant.2 (λ e. omega arith)) in
    fewer_full l.todo c.lowest_bit-p.result l.invariant.2 c.lowest_bit-p.ensures low _ c.put_bit-todo.ensures

pub loop-todo-preserved : goal.loop-todo-preserved
loop-todo-preserved c =
    let l = c.loop-todo in
    let low : c.lowest_bit-p.result < width = omega (arith, one_full l.todo l.invariant.2 (λ e. omega arith)) in
    let p = c.lowest_bit-p.result in (
      c.grasp.ensures.1,
      simp length-set l.invariant.1,
      word_fits _ c.put_bit-todo.ensures,
      λ r o. l.invariant.3 r (drawn l.todo p l.invariant.2 c.lowest_bit-p.ensures low l.s (map num l.rest) _ (sym (entry num (record { 0 = 0 }) refl l.rest p))
          _ _ _ c.if-not-grasp.ensures.0 (store num l.rest p (record { 0 = 0 })) c.put_bit-todo.ensures (length-map l.rest num ∙ l.invariant.1) r o),
    )

pub returns : goal.returns
returns c =
    let l = c.loop-todo in
    rw c.then_some.ensures (decides_then_some (Handed c.args.at (map num c.args.hand) c.args.full.0) c.all_empty.result l.s
    (λ e. l.invariant.3 (Some l.s) (all_empty l.s (map num l.rest) l.todo (omega arith) e))
    (λ e. l.invariant.3 None (not_empty l.s (map num l.rest) l.todo (omega arith) e))
    c.all_empty.ensures)
