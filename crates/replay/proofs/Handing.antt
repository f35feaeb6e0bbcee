-- Chunks and reads one after another.
-- Assumes nothing.
use Prim.Native.Nat.{ℕ, ◌≤◌}
use mathlib.Core.List.{List, [], ◌∷◌, ◌++◌, append_assoc, append-nil}
use mathlib.Core.Path.{◌≡◌, refl, sym, ◌∙◌}
use native.Mathlib.Omega.{arith}
use lib.ListN.{length, take, drop, length-append, take-append-drop}
use lib.Seq.{take-take, take-append_seam, length-take-le}
use Rattle.std.specs.Prelude.{Result, Ok, Err, OnErr}
use Rattle.answers.proofs.AreaLaws.{written_within}
use Rattle.desk.specs.declared.Turn.{Turn}
use Rattle.feed.specs.Takes.{FromFresh, Feeds, Finishes}
use Rattle.feed.specs.Theorems.{Chunks}
use Rattle.feed.specs.declared.Ongoing.{Ongoing}
use Rattle.feed.specs.declared.Fed.{Fed}
use Rattle.feed.proofs.BufferLaws.{empty}
use Rattle.feed.proofs.Theorems.{chunks}
use Rattle.replay.specs.Replays.{Handed, Hands, all_of, Replays}
use Rattle.replay.specs.Broken.{Broken, Breaks, BrokenReplay}
use Rattle.replay.specs.declared.Session.{Session}

chunks_append : {o o' o'' : Ongoing} {store line store' line' store'' line'' b₁ b₂ w₁ w₂ : List ℕ} → Chunks o store line b₁ w₁ o' store' line' → Chunks o' store' line' b₂ w₂ o'' store'' line'' → Chunks o store line (b₁ ++ b₂) (w₁ ++ w₂) o'' store'' line''
chunks_append Chunks.none d = d
chunks_append {b₂ = b₂} {w₂ = w₂} (Chunks.more {bytes = bytes} {written = written} chunk out out' r f later) d =
    rw (append_assoc (take r.used chunk) bytes b₂, append_assoc (take r.wrote out') written w₂) (Chunks.more chunk out out' r f (chunks_append later d))

pub none : {o : Ongoing} {store line : List ℕ} → Handed o store line [] o store line
none = record { written = []; chunks = Chunks.none }

handed : {o o' o'' : Ongoing} {store line store' line' store'' line'' b₁ b₂ : List ℕ} → Handed o store line b₁ o' store' line' → Handed o' store' line' b₂ o'' store'' line'' → Handed o store line (b₁ ++ b₂) o'' store'' line''
handed a b = record { written = a.written ++ b.written; chunks = chunks_append a.chunks b.chunks }

-- ---- a chunk under way

-- what is in front of the rest is handed over
pub record Front (a : Session) (bytes rest : List ℕ) (b : Session) : Type 0 where
  pub front : List ℕ
  pub whole : bytes ≡ front ++ rest
  pub handed : Hands a front b

pub at_front : (a : Session) (bytes : List ℕ) → Front a bytes bytes a
at_front a bytes = record { front = []; whole = refl; handed = none }

-- a call of `feed` with what is left of a chunk
pub further : {a b b' : Session} {bytes rest left : List ℕ} (r : Fed) → Front a bytes rest b → Feeds b.store b.line rest b.out b.ongoing b'.store b'.line b'.out r → b'.ongoing ≡ r.next → left ≡ drop r.used rest → Front a bytes left b'
further {b = b} {b' = b'} {rest = rest} r f fed next behind =
    let more : Handed b.ongoing b.store b.line (take r.used rest ++ []) r.next b'.store b'.line = record { written = take r.wrote b'.out ++ []; chunks = Chunks.more rest b.out b'.out r fed Chunks.none } in
    record {
      front = f.front ++ take r.used rest;
      whole = f.whole ∙ rw (behind, append_assoc f.front (take r.used rest) (drop r.used rest), take-append-drop r.used rest);
      handed = rw next (handed f.handed (rw (append-nil (take r.used rest)) at more));
    }

pub all_handed : {a b : Session} {bytes rest : List ℕ} → Front a bytes rest b → length rest ≡ 0 → Hands a bytes b
all_handed {rest = []} f none = rw (f.whole, append-nil f.front) f.handed
all_handed {rest = x ∷ rest} f none = absurd (omega arith)

-- a read more
all_append : (reads : List (List ℕ)) (read : List ℕ) → all_of (reads ++ (read ∷ [])) ≡ all_of reads ++ read
all_append [] read = append-nil read
all_append (r ∷ reads) read = rw (all_append reads read) (sym (append_assoc r (all_of reads) read))

pub begun : {o : Ongoing} {store line : List ℕ} → FromFresh o → Replays store line o store line
begun {o} new = record { first = o; fresh = new; reads = []; handed = none }

pub replayed : {o o' : Ongoing} {store₀ line₀ store line store' line' read : List ℕ} → Replays store₀ line₀ o store line → Handed o store line read o' store' line' → Replays store₀ line₀ o' store' line'
replayed {read = read} a b = record { first = a.first; fresh = a.fresh; reads = a.reads ++ (read ∷ []); handed = rw (all_append a.reads read) (handed a.handed b) }

-- and then the end of the input
pub last_within : {o : Ongoing} {store line store' line' out store'' out' : List ℕ} {r : Turn} → Replays store line o store' line' → Finishes store' line' out o store'' out' r → r.length ≤ length out
last_within {line = line} a f =
    let after = chunks a.handed.chunks [] (rw a.fresh.held (empty line)) in
    written_within (f after.left after.holds).written

-- where a read or a write fails
pub on_err : {T E P : Type 0} (r : Result T E) → P → OnErr r P
on_err (Ok x) p = tt
on_err (Err e) p = p

pub unread : {o : Ongoing} {store line : List ℕ} (bytes : List ℕ) → Broken o store line bytes store line
unread {o} bytes = record { taken = 0; within = omega arith; next = o; handed = none }

pub unwritten : {a b : Session} {bytes rest : List ℕ} → Front a bytes rest b → Breaks a bytes b
unwritten {b = b} {rest = rest} f = record {
  taken = length f.front;
  within = rw (f.whole, length-append f.front rest) (omega arith);
  next = b.ongoing;
  handed = rw (f.whole, take-append_seam f.front rest) f.handed;
}

pub broken_within : {o : Ongoing} {store line bytes store' line' : List ℕ} (n : ℕ) → n ≤ length bytes → Broken o store line (take n bytes) store' line' → Broken o store line bytes store' line'
broken_within {bytes = bytes} n h b =
    let small : b.taken ≤ n = omega (arith, b.within, length-take-le n bytes h) in
    record { taken = b.taken; within = omega (arith, small, h); next = b.next; handed = rw (take-take b.taken n bytes small) at b.handed }

pub broken_replay : {o : Ongoing} {store₀ line₀ store line bytes store' line' : List ℕ} → Replays store₀ line₀ o store line → Broken o store line bytes store' line' → BrokenReplay store₀ line₀ store' line'
broken_replay a b = record { next = b.next; replayed = replayed a b.handed }
