-- The lines of document 01's sample, and the edges of what it allows, computed.
-- Assumes nothing.
use Prim.Native.Nat.{ℕ}
use Prim.Native.Char.{code}
use Prim.Native.String.{String}
use mathlib.Core.Path.{◌≡◌, refl}
use mathlib.Core.List.{List, [], ◌∷◌, ◌++◌, map}
use mathlib.Core.Option.{Option, none, some}
use lib.ListN.{replicate}
use Rattle.plain.specs.Calls.{create, stop, end, yield, class, tick, mailbox, send, receive, read, release, signal, wait}
use Rattle.answers.specs.Ascii.{ascii}
use Rattle.script.specs.Grammar.{Order, does, why, slice, order}

abbrev lines : List (String × Option Order)
lines =
    ("create 2", some (does (create 2)))
    ∷ ("tick", some (does tick))
    ∷ ("send 3 414243", some (does (send 3 (65 ∷ 66 ∷ 67 ∷ []))))
    ∷ ("receive 3", some (does (receive 3)))
    ∷ ("read 2", some (does (read 2)))
    ∷ ("end", some (does end))
    ∷ ("frob", none)
    ∷ ("stop 31", some (does (stop 31)))
    ∷ ("yield", some (does yield))
    ∷ ("release", some (does release))
    ∷ ("signal 15", some (does (signal 15)))
    ∷ ("wait 15", some (does (wait 15)))
    ∷ ("why 14", some (why 14))
    ∷ ("slice 3", some (slice 3))
    ∷ ("mailbox 3 32 1", some (does (mailbox 3 32 1)))
    -- what the kernel refuses is a good line
    ∷ ("class 9", some (does (class 9)))
    ∷ ("send 300 -", some (does (send 300 [])))
    ∷ ("slice 0", some (slice 0))
    ∷ ("slice 65535", some (slice 65535))
    ∷ ("mailbox 16 0 2", some (does (mailbox 16 0 2)))
    ∷ ("mailbox 65535 65535 65535", some (does (mailbox 65535 65535 65535)))
    -- numbers
    ∷ ("read 512", some (does (read 512)))
    ∷ ("read 4096", some (does (read 4096)))
    ∷ ("read 4097", none)
    ∷ ("create 0", some (does (create 0)))
    ∷ ("create 07", none)
    ∷ ("create 65535", some (does (create 65535)))
    ∷ ("create 65536", none)
    ∷ ("create 4294967297", none)
    ∷ ("create -1", none)
    ∷ ("slice 65536", none)
    ∷ ("slice 03", none)
    ∷ ("mailbox 65536 8 0", none)
    ∷ ("mailbox 3 65536 0", none)
    ∷ ("mailbox 3 8 65536", none)
    ∷ ("mailbox 03 8 0", none)
    ∷ ("mailbox 3 08 0", none)
    ∷ ("mailbox 3 8 00", none)
    ∷ ("mailbox 3 8 -", none)
    -- bytes
    ∷ ("send 3 4", none)
    ∷ ("send 3 4A", none)
    ∷ ("send 3 --", none)
    ∷ ("send 3 00ff", some (does (send 3 (0 ∷ 255 ∷ []))))
    -- words and spaces
    ∷ ("", none)
    ∷ ("Tick", none)
    ∷ ("ticks", none)
    ∷ ("tick 1", none)
    ∷ ("create", none)
    ∷ ("why", none)
    ∷ ("why 1 2", none)
    ∷ ("slice", none)
    ∷ ("slice 3 3", none)
    ∷ ("send 3", none)
    ∷ ("send 3 41 42", none)
    ∷ ("create 3 8 1", none)
    ∷ ("mailbox", none)
    ∷ ("mailbox 3", none)
    ∷ ("mailbox 3 8", none)
    ∷ ("mailbox 3 8 1 1", none)
    ∷ ("mailbox 3 8 ", none)
    ∷ ("mailbox 3 8 1 ", none)
    ∷ ("mailbox 3  8 1", none)
    ∷ ("mailbox  3 8", none)
    ∷ ("Mailbox 3 8 1", none)
    ∷ (" tick", none)
    ∷ ("tick ", none)
    ∷ ("create  2", none)
    ∷ []

lines_read : map (λ (x : String × Option Order). order (ascii x.0)) lines ≡ map (λ (x : String × Option Order). x.1) lines
unfolding order
lines_read = refl

-- request 6: "up to 4,200 message bytes"
abbrev zeros : ℕ → List ℕ
zeros n = ascii "send 0 " ++ replicate n (code "0")

longest-message : order (zeros 8400) ≡ some (does (send 0 (replicate 4200 0)))
unfolding order
longest-message = refl

longer_message : order (zeros 8402) ≡ none
unfolding order
longer_message = refl
