-- `seats::seats_fit` meets its contract. Assumes nothing.
use Rattle.bits.specs.Word.{bits}
use Rattle.rings.proofs.Decisions.{decides_as}
use Rattle.rings.proofs.Folds.{decides_fold}
use Rattle.seats.proofs.Everyone.{all_seats, each-asked, runner-used}
use Rattle.seats.proofs.seats_fit.Goals as goal
use Rattle.seats.proofs.seats_fit.Goals.{then-has_bit-via-then-has_bit, then-has_bit-via-else-has_bit+then-has_bit-2}
use Rattle.seats.specs.Fits.{Asked}
use borrow.Author.Rules.{rules}
use lib.Dec.{eqb}
use lib.ListN.{get_or}
use mathlib.Core.Bool.{true≢false}
use mathlib.Core.Path.{sym, ◌∙◌}
use native.Mathlib.Omega.{arith}

pub returns-then-has_bit : goal.returns-then-has_bit
returns-then-has_bit c =
    let x = c.args.k.now in
    λ s. elim c.then-has_bit.branch [
      | then-has_bit-via-then-has_bit w ↦ true≢false (w.if-has_bit.ensures ∙ s.null_used)
      | then-has_bit-via-else-has_bit+then-has_bit-2 w ↦ true≢false (w.if-has_bit-2.ensures ∙ runner-used c.args.slice x.running.0 c.args.at x.class x.ticks x.unused.0 (search rules) s)
    ]

pub returns : goal.returns
returns c =
    let n = c.args.slice in
    let at = c.args.at in
    let x = c.args.k.now in
    decides_as _ c.fold.result
    (λ s. all_seats n x.running.0 at x.class x.ticks x.unused.0 (sym c.if-has_bit.ensures) (sym c.if-has_bit-2.ensures) (λ i h. rw c.put_bit-vacant.ensures at (s i (omega arith))))
    (λ s i h. rw c.put_bit-vacant.ensures (each-asked n x.running.0 at x.class x.ticks x.unused.0 s i (omega arith)))
    (decides_fold (λ i. Asked n (get_or at i 0) (eqb x.running.0 i) (get_or x.class i 0) (get_or x.ticks i 0) (bits c.put_bit-vacant.result i)) c.fold.ensures.ran (λ i a b h k. search rules) (λ i a h o k. search rules) (λ i h o k. search rules))
