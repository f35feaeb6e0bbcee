-- `pages::pour` meets its contract. The loop's invariant: what the rest writes, the whole writes.
-- Assumes nothing.
use Rattle.chains.specs.Links.{num, run}
use Rattle.pages.proofs.pour.Given as goal
use Rattle.pages.specs.Pieces.{laid}
use Rattle.plain.specs.Pages.{needed}
use Rattle.plain.specs.Sizes.{buffer_size}
use Rattle.std.specs.Slice.Iter.{chunks_rest, chunks_size}
use lib.ListN.{length}
use mathlib.Core.List.{map}
use mathlib.Core.Path.{◌≡◌}

abbrev pub invariant-loop-piece : goal.invariant-loop-piece
invariant-loop-piece l =
    let rest = chunks_rest l.piece-iterator in
    record {
      callable : goal.iterator-loop-piece.can_next l.piece-iterator;
      finite : goal.iterator-loop-piece.is_finite l.piece-iterator;
      pieces : chunks_size l.piece-iterator ≡ buffer_size;
      whole : laid l.store (run (map num l.chain) (needed (length rest)) l.into.0) rest
          ≡ laid l.initial.store (run (map num l.chain) (needed (length l.message)) l.initial.into.0) l.message;
    }
