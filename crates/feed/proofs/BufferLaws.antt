-- What the line buffer holds after a piece, and what its line is answered.
-- Assumes nothing.
use Prim.Native.Nat.{ℕ, ◌+◌, ◌≤◌, ◌<◌}
use mathlib.Core.Bool.{Bool, true, false}
use mathlib.Core.Path.{◌≡◌, refl}
use mathlib.Core.List.{List, [], ◌++◌, append_assoc}
use mathlib.Core.Option.{none}
use native.Mathlib.Omega.{arith}
use lib.Dec.{leb}
use lib.ListN.{length, take, length-append}
use lib.Seq.{take-append_seam}
use borrow.Author.Tests.{lt-ltb, le-leb, lt-leb}
use borrow.Rule.Slice.PartMut.{put_mid, post_of}
use Rattle.std.specs.Prelude.{Option, None, Some, if◌then◌else◌}
use Rattle.script.specs.Grammar.{longest_line, order}
use Rattle.answers.specs.Written.{Written}
use Rattle.desk.specs.Line.{Turned, Line}
use Rattle.desk.specs.declared.Desk.{Desk}
use Rattle.desk.specs.declared.Turn.{Turn}
use Rattle.feed.specs.Buffer.{TooLong, HoldsLine, whole, long, told}

pub empty : (line : List ℕ) → HoldsLine [] line (Some 0)
empty line = whole (omega arith) refl refl

none_told : (n : Option ℕ) → TooLong n → told n ≡ None
none_told None over = refl
none_told (Some n) over = rw (lt-leb n longest_line over)

pub capped_holds : {l b : List ℕ} {n : Option ℕ} → HoldsLine l b n → HoldsLine l b (told n)
capped_holds (whole {n} short counted content) = rw (le-leb n longest_line short) (whole short counted content)
capped_holds (long {n} over far) = rw (none_told n over) (long tt far)

-- a piece that fits
pub longer : {l b : List ℕ} {n : ℕ} (p : List ℕ) (k : ℕ) → n + length p ≤ longest_line → HoldsLine l b (Some n) → HoldsLine (l ++ p) (put_mid n k b p) (Some (n + length p))
longer {l} {b} {n} p k fits (whole short counted content) =
    let size : n + length p ≡ length (l ++ p) = simp length-append (omega arith) in
    whole fits size (rw (content, size, ← append_assoc l p (post_of n k b)) (take-append_seam (l ++ p) (post_of n k b)))
longer p k fits (long over far) = absurd (omega arith)

-- a piece that does not fit; the buffer no longer matters
pub too_long_lem : {l b c : List ℕ} {n : ℕ} (p : List ℕ) → longest_line < n + length p → HoldsLine l b (Some n) → HoldsLine (l ++ p) c None
too_long_lem p over (whole short counted content) = long tt (simp length-append (omega arith))
too_long_lem p over (long more far) = long tt (simp length-append (omega arith))

-- a piece of a line that is too long
pub still_long : {l b c : List ℕ} (p : List ℕ) → HoldsLine l b None → HoldsLine (l ++ p) c None
still_long p (long over far) = long tt (simp length-append (omega arith))

-- a line that is not too long is in the buffer
pub in_buffer : {l b : List ℕ} {n : ℕ} → n ≤ longest_line → HoldsLine l b (Some n) → take n b ≡ l
in_buffer short (whole s counted content) = content
in_buffer short (long over far) = absurd (omega arith)

-- ---- how much is written

pub written_short : {text old new : List ℕ} {count most : ℕ} → Written text old new count → length text ≤ most → count ≤ most
written_short {text} {old} {count = count} {most} w short = rw w.counted (by (leb (length text) (length old)))
  where
    by : (t : Bool) → (if t then length text else 0) ≤ most
    by true = short
    by false = omega arith

-- ---- the answer to a line that is too long

pub over_is_none : (l : List ℕ) → longest_line < length l → order l ≡ none
unfolding order
over_is_none l o = rw (lt-ltb longest_line (length l) o)

pub over_is_bad : {store l b old new : List ℕ} {d : Desk} {r : Turn} {n : Option ℕ} → TooLong n → HoldsLine l b n → Turned none store old d store new r → Line store l old d store new r
over_is_bad over (whole s counted content) t = absurd (omega arith)
over_is_bad {l = l} over (long o far) t = rw (over_is_none l far) t
