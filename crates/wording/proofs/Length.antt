-- How long a reason's words can be, so that there is room for all of them.
-- Assumes nothing.
use Prim.Native.Nat.{ℕ, ◌^◌, ◌≤◌, ◌<◌}
use mathlib.Core.Bool.{Bool, true, false}
use mathlib.Core.List.{[], ◌∷◌, ◌++◌, append_assoc}
use mathlib.Core.Path.{◌≡◌, ◌∙◌}
use native.Mathlib.Omega.{arith}
use lib.Dec.{eqb}
use lib.ListN.{length, length-append}
use Rattle.std.specs.Prelude.{if◌then◌else◌}
use Rattle.plain.specs.Calls.{Answer}
use Rattle.plain.specs.Why.{Reason, unused, running, ready, mailbox, semaphore, behind}
use Rattle.answers.specs.Answer.{decimal, line}
use Rattle.answers.specs.Ascii.{ascii, space}
use Rattle.answers.proofs.TextLaws.{byte_short, line_short}
use Rattle.wording.specs.Promises.{more, Small}
use Rattle.wording.specs.Words.{words, reason_line, ahead_of, behind_class, about, sentence}
use Rattle.wording.proofs.PhraseLaws.{more-more, more_fits}

words_short : (r : Reason) → Small r → length (words r) ≤ 17
unfolding words
words_short unused s = omega arith
words_short running s = omega arith
words_short (ready n) s = simp length-append (omega (arith, byte_short n s.1))
words_short (mailbox x n) s = simp length-append (omega (arith, byte_short x s.0, byte_short n s.1))
words_short (semaphore x n) s = simp length-append (omega (arith, byte_short x s.0, byte_short n s.1))
words_short (behind q) s = simp length-append (omega (arith, byte_short q s.0))

pub reason-line_short : (a : Answer) (r : Reason) → a.code < 2 ^ 32 → a.number < 2 ^ 32 → a.running < 2 ^ 32 → Small r → length (reason_line a r) ≤ 50
unfolding reason_line
reason-line_short a r c n p s = rw (length-append (line a) (space ∷ words r)) (omega (arith, line_short a c n p, words_short r s))

ahead_short : (n : ℕ) → n < 2 ^ 8 → length (ahead_of n) ≤ 20
ahead_short n h = go (eqb n 0) (eqb n 1)
  where
    go : (a b : Bool) → length (if a then ascii "It is next." else (if b then ascii "1 is ahead of it." else decimal n ++ ascii " are ahead of it.")) ≤ 20
    go true b = omega arith
    go false true = omega arith
    go false false = simp length-append (omega (arith, byte_short n h))

class_short : (n : ℕ) → n < 2 ^ 8 → length (behind_class n) ≤ 74
class_short n h = go (eqb n 1)
  where
    go : (b : Bool) → length (if b then ascii " is ready. 1 of its class is ahead of it: the one that runs." else ascii " is ready. " ++ decimal n ++ ascii " of its class are ahead of it, the one that runs among them.") ≤ 74
    go true = omega arith
    go false = simp length-append (omega (arith, byte_short n h))

about_short : (r : Reason) → Small r → length (about r) ≤ 74
about_short unused s = omega arith
about_short running s = omega arith
about_short (ready n) s = class_short n s.1
about_short (mailbox x n) s = simp length-append (omega (arith, byte_short x s.0, ahead_short n s.1))
about_short (semaphore x n) s = simp length-append (omega (arith, byte_short x s.0, ahead_short n s.1))
about_short (behind q) s = simp length-append (omega (arith, byte_short q s.0))

pub sentence_short : (p : ℕ) (r : Reason) → p < 2 ^ 8 → Small r → length (sentence p r) ≤ 85
unfolding sentence
sentence_short p r h s = simp length-append (omega (arith, byte_short p h, about_short r s))

-- ---- said piece by piece, they are whole

pub reason-line-whole : (a : Answer) (r : Reason) → a.code < 2 ^ 32 → a.number < 2 ^ 32 → a.running < 2 ^ 32 → Small r → more (more (line a) (ascii " ")) (words r) ≡ reason_line a r
unfolding reason_line
reason-line-whole a r c n p s = more-more (line a) (ascii " ") (words r) ∙ more_fits (line a) (space ∷ words r) (omega (arith, reason-line_short a r c n p s))

pub sentence-whole : (p : ℕ) (r : Reason) → p < 2 ^ 8 → Small r → more (more (more [] (ascii "Process ")) (decimal p)) (about r) ≡ sentence p r
unfolding sentence
sentence-whole p r h s = simp more-more (simp append_assoc (more_fits [] (ascii "Process " ++ decimal p ++ about r) (omega (arith, sentence_short p r h s))))
