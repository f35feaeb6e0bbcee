-- `verdicts::on_stop` meets its contract. Assumes nothing.
use Rattle.std.proofs.Common.{rules, not, ◌||◌, ◌≡◌, eqb}
use Rattle.verdicts.proofs.Chained.{both}
use Rattle.verdicts.proofs.on_stop.Goals as goal

pub returns : goal.returns
returns c =
    let either : c.if-not-named.refuse_if ≡ (eqb c.args.p 0 || (not c.args.named || c.args.unused)) = search rules in
    both _ _ _ _ c.and.ensures c.sound.ensures (rw either at c.refuse_if.ensures)
