-- `chains::take` meets its contract. Assumes nothing.
use Prim.Native.Nat.{ℕ}
use Rattle.bits.specs.Word.{word, bits, width}
use Rattle.chains.proofs.Turns.{any_low, take-links, take-word, links_end}
use Rattle.chains.proofs.Words.{word_fits, word_none}
use Rattle.chains.proofs.take.Goals as goal
use Rattle.chains.specs.Links.{num, lows, removed}
use Rattle.lists.proofs.Laws.{nobody}
use Rattle.rings.proofs.Units.{store}
use mathlib.Core.Bool.{false}
use mathlib.Core.List.{List}
use mathlib.Core.Path.{sym, ap, ◌∙◌}
use native.Mathlib.Omega.{arith}

pub bounds-chain-b : goal.bounds-chain-b
bounds-chain-b c = omega (arith, any_low c.loop-b.s c.loop-b.left (sym c.any.ensures ∙ c.loop-b-test.true), c.lowest_of-b.ensures)

pub loop-b-preserved : goal.loop-b-preserved
loop-b-preserved c =
    let l = c.loop-b in
    let b = c.lowest_of-b in
    let w = c.put_bit-s in
    let any = sym c.any.ensures ∙ c.loop-b-test.true in
    record {
      fits = word_fits _ w.ensures;
      links = take-links l.s l.left any b.result.0 w.result b.ensures w.ensures _ _ _ c.behind.ensures (store num l.chain b.result.0 c.behind.result) ∙ l.invariant.links;
      others = take-word l.s l.left any b.result.0 w.result b.ensures w.ensures ∙ l.invariant.others;
    }

pub returns-clause-links : goal.returns-clause-links
returns-clause-links c =
    let l = c.loop-b in
    sym (links_end _ (nobody (lows l.left (bits l.s)) (sym c.any.ensures ∙ c.loop-b-test.false))) ∙ l.invariant.links

pub returns-clause-others : goal.returns-clause-others
returns-clause-others c =
    let l = c.loop-b in
    let none = nobody (lows l.left (bits l.s)) (sym c.any.ensures ∙ c.loop-b-test.false) in
    sym (ap (λ (r : List ℕ). word width (removed (bits l.s) r)) none ∙ word_none l.s l.invariant.fits false) ∙ l.invariant.others
