-- Every kind of reason in words, computed.
-- Assumes nothing.
use Prim.Native.String.{String}
use mathlib.Core.Path.{◌≡◌, refl}
use mathlib.Core.List.{List, [], ◌∷◌, map}
use Rattle.plain.specs.Why.{Reason, unused, running, ready, mailbox, semaphore, behind}
use Rattle.answers.specs.Answer.{digits_of, decimal, answer}
use Rattle.answers.specs.Ascii.{ascii}
use Rattle.wording.specs.Words.{words, reason_line, sentence}

-- a reason, and what is told of process 4
sentences : List (Reason × String)
sentences =
    (unused, "Process 4 is not in use.")
    ∷ (running, "Process 4 is running.")
    ∷ (mailbox 3 0, "Process 4 waits at mailbox 3. It is next.")
    ∷ (mailbox 3 1, "Process 4 waits at mailbox 3. 1 is ahead of it.")
    ∷ (mailbox 3 2, "Process 4 waits at mailbox 3. 2 are ahead of it.")
    ∷ (semaphore 15 30, "Process 4 waits at semaphore 15. 30 are ahead of it.")
    ∷ (ready 1, "Process 4 is ready. 1 of its class is ahead of it: the one that runs.")
    ∷ (ready 3, "Process 4 is ready. 3 of its class are ahead of it, the one that runs among them.")
    ∷ (behind 7, "Process 4 is ready and waits while process 7 runs.")
    ∷ []

sentences_told : map (λ (x : Reason × String). sentence 4 x.0) sentences ≡ map (λ (x : Reason × String). ascii x.1) sentences
unfolding sentences sentence digits_of decimal
sentences_told = refl

-- a reason, and the line of the answer `0 0 7` with it
lines : List (Reason × String)
lines =
    (unused, "0 0 7 unused")
    ∷ (running, "0 0 7 running")
    ∷ (mailbox 3 0, "0 0 7 mailbox 3 0")
    ∷ (semaphore 15 30, "0 0 7 semaphore 15 30")
    ∷ (ready 1, "0 0 7 ready 1")
    ∷ (behind 7, "0 0 7 behind 7")
    ∷ []

lines-written : map (λ (x : Reason × String). reason_line (answer 0 0 7) x.0) lines ≡ map (λ (x : Reason × String). ascii x.1) lines
unfolding lines words reason_line digits_of decimal
lines-written = refl
