-- `verdicts::on_fresh_start` meets its contract. Assumes nothing.
use Rattle.plain.specs.Start.{longest_slice}
use Rattle.std.proofs.Common.{rules, ◌||◌, ◌≡◌, eqb, ltb}
use Rattle.verdicts.proofs.on_fresh_start.Goals as goal

pub returns : goal.returns
unfolding longest_slice
returns c =
    let either : c.if-slice-eq0.refuse_if ≡ (eqb c.args.slice 0 || ltb 255 c.args.slice) = search rules in
    rw either at c.refuse_if.ensures
