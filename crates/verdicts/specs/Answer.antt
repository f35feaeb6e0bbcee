-- An answer of the code, and what it says.
-- Assumes nothing.
use Rattle.plain.specs.Calls as Plain
use Rattle.verdicts.specs.declared.Answer.{Answer}

-- an answer of the code, as the plain kernel has it
abbrev pub said : Answer → Plain.Answer
said a = record { code = a.code; number = a.number; running = a.running }
