-- Verdicts of the code, one after the other: the first that refuses is what is found of all their refusals.
-- Assumes nothing.
use mathlib.Core.Bool.{true, false, true≢false}
use mathlib.Core.List.{List, [], ◌∷◌, ◌++◌}
use mathlib.Core.Logic.{◌≢◌}
use mathlib.Core.Path.{◌≡◌, refl, sym}
use native.Mathlib.Omega.{arith}
use Rattle.std.specs.Prelude.{Result, Ok, Err, is_err, IsErrAnd}
use Rattle.std.specs.Result.{result_and}
use Rattle.plain.specs.Calls as Plain
use Rattle.verdicts.specs.Chain.{Verdict, verdict, or_else, judged, found}
use Rattle.verdicts.specs.Told.{code_of, number_of, told}
use Rattle.verdicts.specs.declared.Refusal.{Refusal}
use Rattle.verdicts.specs.declared.Refusal.TheVariants.{NoProcess, NoClass, NoMailbox, NoSemaphore, NoCaller, LongMessage, HandFull, HandEmpty, ShortRoom, AllProcesses, MailboxFull, NoBuffer, CountFull, NotSound, OtherStore, NoSlice, NoSize, MailboxBusy}
use Rattle.verdicts.proofs.Found.{stays}

-- ---- a verdict that refuses has a code, and one that does not has none

some_code : (r : Refusal) → code_of r ≢ 0
some_code NoProcess = omega arith
some_code NoClass = omega arith
some_code NoMailbox = omega arith
some_code NoSemaphore = omega arith
some_code NoCaller = omega arith
some_code LongMessage = omega arith
some_code HandFull = omega arith
some_code HandEmpty = omega arith
some_code (ShortRoom n) = omega arith
some_code AllProcesses = omega arith
some_code MailboxFull = omega arith
some_code NoBuffer = omega arith
some_code CountFull = omega arith
some_code NotSound = omega arith
some_code OtherStore = omega arith
some_code NoSlice = omega arith
some_code NoSize = omega arith
some_code MailboxBusy = omega arith

pub told_err : (v : Result (Unit {0}) Refusal) → is_err v ≡ true → (told v).code ≢ 0
unfolding told
told_err (Ok u) e = absurd (true≢false (sym e))
told_err (Err r) e = some_code r

pub told_ok : (v : Result (Unit {0}) Refusal) → is_err v ≡ false → (told v).code ≡ 0
unfolding told
told_ok (Ok u) e = refl
told_ok (Err r) e = absurd (true≢false e)

-- ---- one after the other

behind : (v : Verdict) (rs more : List Plain.Refusal) → judged v (rs ++ more) ≡ judged (judged v rs) more
behind v [] more = refl
behind v (r ∷ rs) more = behind (or_else v r) rs more

stopped : (r : Refusal) (rs more : List Plain.Refusal) → told (Err r) ≡ found rs → told (Err r) ≡ found (rs ++ more)
unfolding told found
stopped r rs more e = rw (behind (verdict 0 0) rs more, ← e) (sym (stays (verdict (code_of r) (number_of r)) more (some_code r)))

-- one that refuses is handed up, whatever would be asked after it
pub ends : (x : Result (Unit {0}) Refusal) (r : Refusal) (rs more : List Plain.Refusal) → IsErrAnd x (λ e. e ≡ r) → told (Err r) ≡ found rs → told x ≡ found (rs ++ more)
ends (Ok u) r rs more is e = absurd is
ends (Err y) r rs more is e = rw is (stopped r rs more e)

-- behind one that does not refuse, it is for the next to say
pub goes_on : (u : Unit {0}) (x : Result (Unit {0}) Refusal) (rs more : List Plain.Refusal) → told (Ok u) ≡ found rs → told x ≡ found more → told x ≡ found (rs ++ more)
unfolding told found
goes_on u x rs more e h = rw (behind (verdict 0 0) rs more, ← e) h

-- the first of two, where it refuses, and else the second
pub both : {x : Result (Unit {0}) Refusal} (a b : Result (Unit {0}) Refusal) (rs more : List Plain.Refusal) → x ≡ result_and a b → told a ≡ found rs → told b ≡ found more → told x ≡ found (rs ++ more)
both (Ok u) b rs more is e h = rw is (goes_on u _ rs more e h)
both (Err r) b rs more is e h = rw is (stopped r rs more e)
