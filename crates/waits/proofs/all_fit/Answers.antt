-- `waits::all_fit` meets its contract. Assumes nothing.
use Rattle.bits.specs.Word.{bits}
use Rattle.rings.proofs.Decisions.{decides_as}
use Rattle.rings.proofs.Folds.{decides_all}
use Rattle.std.proofs.Common.{rules}
use Rattle.waits.proofs.all_fit.Goals as goal
use Rattle.waits.specs.Waits.{WaitFits, is_holding}
use lib.Dec.{eqb}
use lib.ListN.{get_or}
use mathlib.Core.Path.{sym}

pub returns : goal.returns
returns c =
    let a = c.args in
    decides_as _ c.all.result
    (λ o. record { null = sym c.if-has_bit.ensures; others = o })
    (λ s. s.others)
    (rw c.bytes_of-links.ensures at (decides_all (λ p. WaitFits (get_or a.at p 0) (eqb p a.running.0) (bits a.full.0 p) (is_holding c.bytes_of-links.result) (λ i. get_or a.count i 0)) c.all.ensures.ran (λ i b h k. search rules) (λ i h o k. search rules) (λ i h o k. search rules)))
