-- What a mailbox of a state of the code does with one message more, and whether it has messages or waiters.
-- Assumes nothing.
use Rattle.std.specs.Prelude.{ℕ, ◌%◌, Bool, not, ◌&&◌, ◌||◌, eqb, ltb, if◌then◌else◌}
use Rattle.plain.specs.Sizes.{processes, mailboxes, at_mailbox}
use Rattle.procs.specs.Moves.{first_of}
use Rattle.procs.specs.Stands as Procs
use Rattle.mail.specs.Carries as Mail
use Rattle.mail.specs.Moves.{is_full_box, is_empty_box}
use Rattle.kernel.specs.Holds.{settings_of}
use Rattle.kernel.specs.declared.Kernel.{Kernel}
use Rattle.kernel.specs.declared.mailboxes.Fullness.{Fullness}
use Rattle.kernel.specs.declared.mailboxes.Fullness.TheVariants.{HasRoom, Refuses, Overflows}

abbrev pub is_full_at : Kernel → ℕ → Bool
is_full_at k m = is_full_box (Mail.numbers k.mail) m ((settings_of k).capacity m)

abbrev pub drops_at : Kernel → ℕ → Bool
drops_at k m = eqb ((settings_of k).mode m) 1

abbrev pub refuses_at : Kernel → ℕ → Bool
refuses_at k m = is_full_at k m && not (drops_at k m)

abbrev pub overflows_at : Kernel → ℕ → Bool
overflows_at k m = is_full_at k m && drops_at k m

abbrev pub fullness_at : Kernel → ℕ → Fullness
fullness_at k m = if is_full_at k m then (if drops_at k m then Overflows else Refuses) else HasRoom

-- of a mailbox that there is
abbrev pub busy_at : Kernel → ℕ → Bool
busy_at k m = not (is_empty_box (Mail.numbers k.mail) m) || ltb (first_of (Procs.numbers k.procs) (at_mailbox (m % mailboxes))) processes
