-- What a verdict of the code tells in numbers: the code that the plain kernel has for a refusal, and the length that is needed.
-- Assumes nothing.
use Rattle.std.specs.Prelude.{ℕ, Result, Ok, Err}
use Rattle.verdicts.specs.Chain.{Verdict, verdict}
use Rattle.verdicts.specs.declared.Refusal.{Refusal}
use Rattle.verdicts.specs.declared.Refusal.TheVariants.{NoProcess, NoClass, NoMailbox, NoSemaphore, NoCaller, LongMessage, HandFull, HandEmpty, ShortRoom, AllProcesses, MailboxFull, NoBuffer, CountFull, NotSound, OtherStore, NoSlice, NoSize, MailboxBusy}

abbrev pub code_of : Refusal → ℕ
code_of NoProcess = 1
code_of NoClass = 2
code_of NoMailbox = 3
code_of NoSemaphore = 4
code_of NoCaller = 5
code_of LongMessage = 6
code_of HandFull = 7
code_of HandEmpty = 8
code_of (ShortRoom n) = 9
code_of AllProcesses = 10
code_of MailboxFull = 11
code_of NoBuffer = 12
code_of CountFull = 13
code_of NotSound = 14
code_of OtherStore = 15
code_of NoSlice = 16
code_of NoSize = 17
code_of MailboxBusy = 18

abbrev pub number_of : Refusal → ℕ
number_of (ShortRoom n) = n
number_of _ = 0

unfoldable pub told : Result (Unit {0}) Refusal → Verdict
told (Ok u) = verdict 0 0
told (Err r) = verdict (code_of r) (number_of r)
