-- `feed::text` meets its contract: a line that is too long is answered as the desk would answer the whole of it.
-- Assumes nothing.
use Rattle.desk.proofs.Texts.{answered_short}
use Rattle.feed.proofs.BufferLaws.{capped_holds, over_is_bad, in_buffer, written_short}
use Rattle.feed.proofs.text.Goals as goal

pub returns-in-Some : goal.returns-in-Some
returns-in-Some c =
    let turned = c.line.ensures in
    record { short = written_short turned.written (answered_short turned.answered); answered = λ l h. rw (in_buffer c.in-Some.ensures.bounded (rw (← c.in-Some.ensures.same) at (capped_holds h))) at turned }

pub returns-in-None : goal.returns-in-None
returns-in-None c =
    let turned = c.bad.ensures c.args.store.now in
    record { short = written_short turned.written (answered_short turned.answered); answered = λ l h. over_is_bad tt (rw (← c.in-None.ensures.same) at (capped_holds h)) turned }
