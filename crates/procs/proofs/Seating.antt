-- A struct that holds the processes of a plain state is read as that state.
-- Assumes nothing.
use mathlib.Core.Path.{◌≡◌, fun_ext}
use Rattle.queues.proofs.Lines.{line_is}
use Rattle.plain.specs.State.{Procs}
use Rattle.procs.specs.Seating.{seated}
use Rattle.procs.specs.Stands.{Numbers, Stands}

pub seated_is : {k : Numbers} {s : Procs} → Stands k s → seated k.running k.class k.ticks k.tables.next ≡ s
unfolding seated
seated_is {k} {s} H =
    let queue = fun_ext (line_is H.queues) in
    let class = fun_ext H.class in
    let ticks = fun_ext H.ticks in
    λ i. record { running = H.running i; queue = queue i; class = class i; ticks = ticks i }
