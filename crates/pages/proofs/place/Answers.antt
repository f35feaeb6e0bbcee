-- `pages::place` meets its contract. Assumes nothing.
use Rattle.pages.proofs.place.Goals as goal
use Rattle.std.proofs.Common.{rules, ℕ, ◌+◌, ◌≤◌, List, length, get_or, set, arith}
use Rattle.std.proofs.lemmas.List.Edits.{paste_more}
use lib.ListN.{length-set}
use mathlib.Core.Path.{ap, ◌∙◌}

pub loop-i-preserved : goal.loop-i-preserved
loop-i-preserved c =
    let fits : c.args.at + length c.args.src.now ≤ length c.args.dst.now = search rules in (
      simp length-set (search rules),
      ap (λ (l : List ℕ). set l (c.args.at + c.loop-i.i) (get_or c.args.src.now c.loop-i.i 0)) c.loop-i.invariant.1
          ∙ paste_more c.args.dst.now c.args.at c.args.src.now c.loop-i.i 0 (omega (arith, fits)) (omega (arith, fits)),
    )
