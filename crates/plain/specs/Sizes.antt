-- Sizes: the numbers that document 01 fixes, each named once.
-- Assumes nothing.
use Rattle.std.specs.Prelude.{ℕ, ◌+◌, ◌*◌}

-- "Processes: 0 to 31; 0 is the null process, never unused, never on a queue"
abbrev pub processes : ℕ
processes = 32

-- "Classes: 0 to 4; 4 is highest"
abbrev pub classes : ℕ
classes = 5

-- "Mailboxes: 0 to 15"
abbrev pub mailboxes : ℕ
mailboxes = 16

-- "Buffers: 0 to 31, 512 bytes each; buffer b starts at byte 512 b of the store"
abbrev pub buffers : ℕ
buffers = 32

unfoldable pub buffer_size : ℕ
buffer_size = 512

-- "Message store: exactly 16,384 bytes"
unfoldable pub store_size : ℕ
unfolding buffer_size
store_size = buffers * buffer_size

-- "Message: 0 to 512 bytes", by request 6 "0 to 4,096"
unfoldable pub longest : ℕ
longest = 4096

-- "Semaphores: 0 to 15, count 0 to 65,535"
abbrev pub semaphores : ℕ
semaphores = 16

unfoldable pub highest_count : ℕ
highest_count = 65535

-- The queues of processes by number: the ready ones of class c are queue c; then come the waiters at the mailboxes, then those at the semaphores.
abbrev pub at_mailbox : ℕ → ℕ
at_mailbox m = classes + m

abbrev pub at_semaphore : ℕ → ℕ
at_semaphore k = classes + mailboxes + k

abbrev pub queues : ℕ
queues = classes + mailboxes + semaphores
