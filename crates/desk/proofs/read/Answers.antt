-- `desk::read` meets its contract.
-- Assumes nothing.
use Prim.Native.Nat.{ℕ}
use Rattle.desk.proofs.Turns.{shown_there, read_refused, read_shown}
use Rattle.desk.proofs.read.Goals as goal
use Rattle.script.specs.Grammar.{largest_room}
use borrow.Author.Rules.{rules}
use lib.ListN.{take, replicate}
use lib.Seq.{length-take-le}
use mathlib.Core.Path.{sym}

pub slice_bounds-read-end : goal.slice_bounds-read-end
slice_bounds-read-end c = sym (length-take-le _ _ (search rules))

pub returns-then-a-ne-DONE : goal.returns-then-a-ne-DONE
returns-then-a-ne-DONE c = read_refused c.read-done.result (length-take-le c.args.n (replicate {A = ℕ} largest_room 0) (search rules)) c.read-done.ensures c.if-a-ne-DONE.true c.tell.ensures

pub slice_bounds-room-end-2 : goal.slice_bounds-room-end-2
slice_bounds-room-end-2 c = shown_there c.args.store.now (take c.args.n (replicate {A = ℕ} largest_room 0)) _ c.read-done.ensures c.if-a-ne-DONE.false

pub slice_bounds-put_read_line-end : goal.slice_bounds-put_read_line-end
slice_bounds-put_read_line-end c = sym (length-take-le _ _ (shown_there c.args.store.now (take c.args.n (replicate {A = ℕ} largest_room 0)) _ c.read-done.ensures c.if-a-ne-DONE.false))

pub returns : goal.returns
returns c = read_shown c.read-done.result (length-take-le c.args.n (replicate {A = ℕ} largest_room 0) (search (rules, c.requires))) c.read-done.ensures _ c.if-a-ne-DONE.false c.turned.ensures c.put_read_line-length.ensures
