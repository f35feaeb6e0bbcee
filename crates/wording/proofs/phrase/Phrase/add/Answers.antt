-- `wording::phrase::Phrase::add` meets its contract.
-- Assumes nothing.
use Prim.Native.Nat.{◌-◌, min}
use Rattle.std.proofs.lemmas.Grind.{common_steps}
use Rattle.wording.proofs.PhraseLaws.{cut_bytes}
use Rattle.wording.proofs.phrase.Phrase.add.Goals as goal
use borrow.Author.Rules.{rules}
use lib.ListN.{length}
use mathlib.Core.Path.{◌≡◌}
use native.Mathlib.Omega.{arith}

pub returns : goal.returns
returns g c =
    let t = c.self.inside in
    let room = g.row.ROOM in
    let size : length t.bytes ≡ room = search rules in
    let many : c.min-fits.result ≡ min (length c.args.piece.now) (room - t.length) = grind (arith, common_steps) in
    rw (← c.self.view_is, c.copy_from_slice.ensures.after) (cut_bytes room t.bytes t.length c.min-fits.result _ c.args.piece.now size c.self.invariant many (omega arith))
