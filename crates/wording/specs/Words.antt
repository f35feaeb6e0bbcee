-- A reason in words: the desk's, and the sentences that a stagehand is told.
-- Assumes nothing.
use Rattle.std.specs.Prelude.{ℕ, List, ◌∷◌, ◌++◌, eqb, if◌then◌else◌}
use Rattle.plain.specs.Calls.{Answer}
use Rattle.plain.specs.Why.{Reason, unused, running, ready, mailbox, semaphore, behind}
use Rattle.answers.specs.Answer.{decimal, line}
use Rattle.answers.specs.Ascii.{ascii, space}

-- ---- at the desk

-- "mailbox X N", "semaphore X N"
abbrev pub placed : List ℕ → ℕ → ℕ → List ℕ
placed word x n = word ++ space ∷ decimal x ++ space ∷ decimal n

unfoldable pub words : Reason → List ℕ
words unused = ascii "unused"
words running = ascii "running"
words (ready n) = ascii "ready " ++ decimal n
words (mailbox x n) = placed (ascii "mailbox") x n
words (semaphore x n) = placed (ascii "semaphore") x n
words (behind q) = ascii "behind " ++ decimal q

-- the answer's line, a space and the reason
unfoldable pub reason_line : Answer → Reason → List ℕ
reason_line a r = line a ++ space ∷ words r

-- ---- for a stagehand

abbrev pub ahead_of : ℕ → List ℕ
ahead_of n =
    if eqb n 0 then ascii "It is next."
    else (if eqb n 1 then ascii "1 is ahead of it."
    else decimal n ++ ascii " are ahead of it.")

abbrev pub waits_at : List ℕ → ℕ → ℕ → List ℕ
waits_at word x n = ascii " waits at " ++ word ++ space ∷ decimal x ++ ascii ". " ++ ahead_of n

-- behind n of its own class, the one that runs counted
abbrev pub behind_class : ℕ → List ℕ
behind_class n =
    if eqb n 1 then ascii " is ready. 1 of its class is ahead of it: the one that runs."
    else ascii " is ready. " ++ decimal n ++ ascii " of its class are ahead of it, the one that runs among them."

abbrev pub stands_by : ℕ → List ℕ
stands_by q = ascii " is ready and waits while process " ++ decimal q ++ ascii " runs."

abbrev pub about : Reason → List ℕ
about unused = ascii " is not in use."
about running = ascii " is running."
about (ready n) = behind_class n
about (mailbox x n) = waits_at (ascii "mailbox") x n
about (semaphore x n) = waits_at (ascii "semaphore") x n
about (behind q) = stands_by q

-- what is told of process p
unfoldable pub sentence : ℕ → Reason → List ℕ
sentence p r = ascii "Process " ++ decimal p ++ about r
