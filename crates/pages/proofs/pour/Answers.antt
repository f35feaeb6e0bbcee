-- `pages::pour` meets its contract. Assumes nothing.
use Prim.Native.Nat.{ℕ}
use Rattle.chains.specs.Links.{num, run}
use Rattle.pages.proofs.Pieces.{laid-none, laid_more}
use Rattle.pages.proofs.pour.Goals as goal
use Rattle.pages.specs.Pieces.{laid}
use Rattle.plain.specs.Pages.{needed}
use Rattle.plain.specs.Sizes.{buffer_size}
use Rattle.std.proofs.lemmas.List.{nil_from_length}
use Rattle.std.specs.Slice.Iter.{chunks_rest, chunks_size}
use lib.ListN.{length}
use mathlib.Core.List.{List, map}
use mathlib.Core.Path.{sym, ap, ◌∙◌}
use native.Mathlib.Omega.{arith}

pub loop-piece-init : goal.loop-piece-init
unfolding buffer_size
loop-piece-init c =
    let a = c.args in
    let made = c.into_iter-piece-iterator.ensures.into_iter_gives in
    let size = ap chunks_size made ∙ c.chunks-piece-items.ensures.size in
    record {
      callable = omega (arith, size);
      finite = tt;
      pieces = size;
      whole = ap (λ (r : List ℕ). laid a.store.now (run (map num a.chain.now) (needed (length r)) a.b.0) r) (ap chunks_rest made ∙ c.chunks-piece-items.ensures.rest);
    }

pub loop-piece-preserved : goal.loop-piece-preserved
loop-piece-preserved c =
    let l = c.loop-piece in
    let steps = c.in-Some.ensures.steps in
    record {
      callable = omega (arith, steps.0, l.invariant.callable);
      finite = tt;
      pieces = steps.0 ∙ l.invariant.pieces;
      whole = laid_more (map num c.args.chain.now) l.store _ _ _ _ l.into.0 _ _ c.start_of.ensures c.place.ensures c.next-into.ensures steps.1.0 (rw l.invariant.pieces at steps.1.1) ∙ l.invariant.whole;
    }

pub returns : goal.returns
returns c =
    let l = c.loop-piece in
    let t = map num c.args.chain.now in
    let none = nil_from_length _ c.in-None.ensures.steps.1.0 in
    sym (ap (λ (r : List ℕ). laid l.store (run t (needed (length r)) l.into.0) r) none ∙ laid-none t l.store l.into.0) ∙ l.invariant.whole
