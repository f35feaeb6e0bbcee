-- `chains::give_back` meets its contract. Assumes nothing.
use Prim.Native.Nat.{ℕ}
use Rattle.bits.specs.Word.{word, bits, width}
use Rattle.chains.proofs.Turns.{give-links, give-word, run_end, alone_end}
use Rattle.chains.proofs.Words.{word_fits, word_none}
use Rattle.chains.proofs.give_back.Goals as goal
use Rattle.chains.specs.Links.{num, added}
use Rattle.rings.proofs.Units.{store}
use mathlib.Core.Bool.{true}
use mathlib.Core.List.{List, map}
use mathlib.Core.Path.{sym, ap, ◌∙◌}

pub loop-preserved : goal.loop-preserved
loop-preserved c =
    let l = c.loop in
    let t = map num c.args.chain.now in
    let stored = ap (map num) c.set_entry.ensures ∙ store num l.chain l.x.0 l.x in
    record {
      fits = word_fits _ c.put_bit-s.ensures;
      links = give-links t c.args.n l.counter l.x.0 c.loop-test.true _ c.next-x.ensures _ _ stored ∙ l.invariant.links;
      others = give-word t c.args.n l.counter l.x.0 c.loop-test.true _ c.next-x.ensures l.s _ c.put_bit-s.ensures ∙ l.invariant.others;
    }

pub returns-clause-links : goal.returns-clause-links
returns-clause-links c =
    let l = c.loop in
    sym (alone_end _ (run_end (map num c.args.chain.now) c.args.n l.counter l.x.0 c.loop-test.false)) ∙ l.invariant.links

pub returns-clause-others : goal.returns-clause-others
returns-clause-others c =
    let l = c.loop in
    let none = run_end (map num c.args.chain.now) c.args.n l.counter l.x.0 c.loop-test.false in
    sym (ap (λ (r : List ℕ). word width (added (bits l.s) r)) none ∙ word_none l.s l.invariant.fits true) ∙ l.invariant.others
