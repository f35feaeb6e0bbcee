-- The sample of "The replay desk", with request 1's questions between its calls, request 5's mailboxes, and request 3's first lines, computed.
-- Assumes nothing.
use Prim.Native.Nat.{ℕ}
use Prim.Native.String.{String}
use mathlib.Core.Path.{◌≡◌, refl}
use mathlib.Core.List.{List, [], ◌∷◌, map}
use Rattle.lists.specs.Lists.{total, lowest, those}
use Rattle.plain.specs.Calls.{perform, refusals, step}
use Rattle.plain.specs.Names.{raised, name, bare, names}
use Rattle.plain.specs.Mailboxes.{most_queued, no_size, busy, refuses, overflows, relieved}
use Rattle.plain.specs.Runs.{choose, choose_below, join, stand_down, make_ready, go_to, remove, halt}
use Rattle.plain.specs.Sizes.{buffer_size, longest, highest_count}
use Rattle.plain.specs.Listing.{queue_of}
use Rattle.plain.specs.Start.{longest_slice, fresh_start}
use Rattle.plain.specs.State.{spots, held, free_process, free_buffers}
use Rattle.plain.specs.Pages.{needed}
use Rattle.plain.specs.Why.{reason_in, reason, why}
use Rattle.answers.specs.Answer.{digits_of, decimal}
use Rattle.answers.specs.Ascii.{ascii}
use Rattle.script.specs.Grammar.{order}
use Rattle.wording.specs.Words.{words, reason_line}
use Rattle.desk.specs.Reply.{at_first, replies}

-- a line, and what is written for it
abbrev Lines : Type 0
Lines = List (String × String)

-- what is written for these lines, from the first on
unfoldable pub shown : Lines → List (List ℕ)
unfolding step refusals perform fresh_start raised name bare names choose choose_below join stand_down make_ready go_to remove halt spots total lowest held free_process free_buffers those needed most_queued no_size busy refuses overflows relieved buffer_size longest highest_count longest_slice queue_of reason_in reason why order digits_of decimal words reason_line
shown l = replies at_first (map (λ (x : String × String). ascii x.0) l)

abbrev meant : Lines → List (List ℕ)
meant l = map (λ (x : String × String). ascii x.1) l

-- It was tuned to a slice of 3, which its first line names.
abbrev sample : Lines
sample =
    ("slice 3", "0 0 0")
    ∷ ("create 2", "0 257 1")
    ∷ ("create 2", "0 258 1")
    ∷ ("why 257", "0 0 1 running")
    ∷ ("why 258", "0 0 1 ready 1")
    ∷ ("why 3", "0 0 1 unused")
    ∷ ("why 0", "0 0 1 behind 1")
    ∷ ("why 32", "1 0 1")
    ∷ ("why 256", "1 0 1")
    ∷ ("why 2", "1 0 1")
    ∷ ("stop 2", "1 0 1")
    ∷ ("tick", "0 0 1")
    ∷ ("send 3 414243", "0 0 1")
    ∷ ("receive 3", "0 3 1")
    ∷ ("read 2", "9 3 1")
    ∷ ("read 512", "0 3 1 414243")
    ∷ ("end", "0 0 2")
    ∷ ("why 257", "0 0 2 unused")
    ∷ ("stop 257", "1 0 2")
    ∷ ("frob", "bad")
    -- no bytes, on both sides
    ∷ ("send 0 -", "0 0 2")
    ∷ ("receive 0", "0 0 2")
    ∷ ("read 0", "0 0 2 -")
    -- a receiver and a waiter, each with nobody ahead
    ∷ ("create 2", "0 513 2")
    ∷ ("release", "0 0 2")
    ∷ ("receive 9", "32 0 1")
    ∷ ("wait 4", "32 0 0")
    ∷ ("why 258", "0 0 0 mailbox 9 0")
    ∷ ("why 513", "0 0 0 semaphore 4 0")
    ∷ ("why 257", "1 0 0")
    ∷ ("stop 257", "1 0 0")
    ∷ ("why 0", "0 0 0 running")
    ∷ []

pub sample-written : shown sample ≡ meant sample
unfolding shown
sample-written = refl

-- ---- request 5: meters that drop, a rider that does not

abbrev habits : Lines
habits =
    ("mailbox 5 2 1", "0 0 0")
    ∷ ("mailbox 6 1 0", "0 0 0")
    ∷ ("mailbox 16 33 2", "3 0 0")
    ∷ ("mailbox 5 33 0", "17 0 0")
    ∷ ("mailbox 5 2", "bad")
    ∷ ("send 5 31", "0 0 0")
    ∷ ("send 5 32", "0 0 0")
    ∷ ("send 5 33", "0 0 0")
    ∷ ("send 6 6e6f", "0 0 0")
    ∷ ("send 6 796573", "11 0 0")
    ∷ ("mailbox 5 2 1", "18 0 0")
    ∷ ("create 2", "0 257 1")
    ∷ ("receive 5", "0 1 1")
    ∷ ("read 9", "0 1 1 32")
    ∷ ("release", "0 0 1")
    ∷ ("receive 6", "0 2 1")
    ∷ ("read 9", "0 2 1 6e6f")
    ∷ []

pub habits-written : shown habits ≡ meant habits
unfolding shown
habits-written = refl

-- ---- request 3: which slice holds is seen by the tick at which the second process runs

abbrev each : Lines
each = ("create 2", "0 257 1") ∷ ("create 2", "0 258 1") ∷ ("tick", "0 0 2") ∷ ("tick", "0 0 1") ∷ []

abbrev third : Lines
third = ("create 2", "0 257 1") ∷ ("create 2", "0 258 1") ∷ ("tick", "0 0 1") ∷ ("tick", "0 0 1") ∷ ("tick", "0 0 2") ∷ []

abbrev fifth : Lines
fifth = ("create 2", "0 257 1") ∷ ("create 2", "0 258 1") ∷ ("tick", "0 0 1") ∷ ("tick", "0 0 1") ∷ ("tick", "0 0 1") ∷ ("tick", "0 0 1") ∷ ("tick", "0 0 2") ∷ []

-- scripts, each from the first line on
abbrev slices : List Lines
slices =
    -- one is named; none is, where 5 holds
    (("slice 1", "0 0 0") ∷ each)
    ∷ (("slice 3", "0 0 0") ∷ third)
    ∷ (("slice 5", "0 0 0") ∷ fifth)
    ∷ (("slice 255", "0 0 0") ∷ [])
    ∷ fifth
    -- refused, and 5 holds
    ∷ (("slice 0", "16 0 0") ∷ fifth)
    ∷ (("slice 256", "16 0 0") ∷ fifth)
    ∷ (("slice 65535", "16 0 0") ∷ fifth)
    -- no numbers of the desk, and 5 holds
    ∷ (("slice 03", "bad") ∷ fifth)
    ∷ (("slice 65536", "bad") ∷ fifth)
    -- whatever the first line was, a later one is too late
    ∷ (("slice 3", "0 0 0") ∷ ("slice 4", "bad") ∷ third)
    ∷ (("slice 0", "16 0 0") ∷ ("slice 3", "bad") ∷ fifth)
    ∷ (("slice 03", "bad") ∷ ("slice 3", "bad") ∷ fifth)
    ∷ (("", "bad") ∷ ("slice 3", "bad") ∷ fifth)
    ∷ (("why 0", "0 0 0 running") ∷ ("slice 3", "bad") ∷ fifth)
    ∷ (("tick", "0 0 0") ∷ ("slice 3", "bad") ∷ fifth)
    ∷ []

pub slices-named : map shown slices ≡ map meant slices
unfolding shown
slices-named = refl
