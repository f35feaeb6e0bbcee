-- `desk::line` meets its contract. Each return is the turn of the order that the line's word means.
-- Assumes nothing.
use Prim.Native.Nat.{◌+◌, ◌≤◌}
use Rattle.desk.proofs.Turns.{quietly, as_line, at_end}
use Rattle.desk.proofs.line.Goals as goal
use Rattle.script.specs.Grammar.{most_bytes}
use Rattle.std.specs.Prelude.{Some}
use lib.ListN.{length}
use mathlib.Core.Path.{ap, ◌∙◌}
use native.Mathlib.Omega.{arith}

pub overflow_mul-from : goal.overflow_mul-from
overflow_mul-from c =
    let short : let n = c.in-Send.n in (n ≤ most_bytes) × (n + n ≤ length c.args.line.now) = c.request.ensures.short _ _ (c.in-Some.is ∙ ap Some c.in-Send.is) in
    omega (arith, short)

pub overflow_sub-from : goal.overflow_sub-from
overflow_sub-from c =
    let short : let n = c.in-Send.n in (n ≤ most_bytes) × (n + n ≤ length c.args.line.now) = c.request.ensures.short _ _ (c.in-Some.is ∙ ap Some c.in-Send.is) in
    omega (arith, short)

pub send-requires : goal.send-requires
send-requires c =
    let short : let n = c.in-Send.n in (n ≤ most_bytes) × (n + n ≤ length c.args.line.now) = c.request.ensures.short _ _ (c.in-Some.is ∙ ap Some c.in-Send.is) in
    omega (arith, short)

pub read-requires : goal.read-requires
read-requires c = c.request.ensures.room _ (c.in-Some.is ∙ ap Some c.in-Read.is)

pub returns-in_default : goal.returns-in_default
returns-in_default c = as_line c.request.ensures c.in_default.is (c.bad.ensures _)

pub returns-in-Call : goal.returns-in-Call
returns-in-Call c = as_line c.request.ensures (c.in-Some.is ∙ ap Some c.in-Call.is) (quietly _ c.in-Call.call c.called-done.ensures c.tell.ensures)

pub returns-in-Send : goal.returns-in-Send
returns-in-Send c = at_end _ _ c.request.ensures (c.in-Some.is ∙ ap Some c.in-Send.is) (omega arith) c.send.ensures

pub returns-in-Read : goal.returns-in-Read
returns-in-Read c = as_line c.request.ensures (c.in-Some.is ∙ ap Some c.in-Read.is) c.read.ensures

pub returns-in-Why : goal.returns-in-Why
returns-in-Why c = as_line c.request.ensures (c.in-Some.is ∙ ap Some c.in-Why.is) (c.why.ensures _)

pub returns-in-Slice : goal.returns-in-Slice
returns-in-Slice c = as_line c.request.ensures (c.in-Some.is ∙ ap Some c.in-Slice.is) (c.start.ensures _)
