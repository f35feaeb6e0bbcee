-- The image of a kernel: its struct as bytes at fixed offsets, with no bytes between.
-- Assumes nothing.
use Rattle.std.specs.Prelude.{◌≡◌, ℕ, ◌+◌, ◌*◌, ◌^◌, ◌<◌, length, replicate}
use mathlib.Core.List.{List, ◌++◌, Memᴰ}
use Rattle.sizes.specs.declared.Pid.{Pid}
use Rattle.plain.specs.Sizes as Sizes
use Rattle.plain.specs.Sizes.{processes, buffers, mailboxes, semaphores}
use Rattle.queues.specs.Queue.{Queues}
use Rattle.sizes.specs.declared.Bid.{Bid}
use Rattle.boxes.specs.Box.{Boxes}
use Rattle.procs.specs.declared.Procs.{Procs}
use Rattle.mail.specs.declared.Mail.{Mail}
use Rattle.kernel.specs.declared.Kernel.{Kernel}
use Rattle.kernel.specs.declared.Settings.{Settings}
use Rattle.image.specs.Bytes.{byte, le, each}

-- how many bytes each part takes, a byte for a link, four for a word of bits, two for a length or a count
abbrev pub nodes : ℕ
nodes = processes + Sizes.queues

abbrev pub queues_long : ℕ
queues_long = nodes + nodes

-- where the classes, the ticks left and the links on of the queues begin: behind the byte that says who runs
abbrev pub class_at : ℕ
class_at = 1

abbrev pub ticks_at : ℕ
ticks_at = class_at + processes

abbrev pub next_at : ℕ
next_at = ticks_at + processes

abbrev pub procs_long : ℕ
procs_long = 1 + processes + processes + queues_long + 4 + 4

abbrev pub box_nodes : ℕ
box_nodes = buffers + mailboxes

abbrev pub boxes_long : ℕ
boxes_long = box_nodes + box_nodes

abbrev pub mail_long : ℕ
mail_long = boxes_long + processes + 4 + 2 * buffers + 4 + buffers

-- the birth counts stand behind the counts, and the settings behind these: the slice, the capacity of each mailbox, and the mode of each
abbrev pub births_at : ℕ
births_at = procs_long + mail_long + 2 * semaphores

abbrev pub settings_at : ℕ
settings_at = births_at + processes

abbrev pub settings_long : ℕ
settings_long = 1 + mailboxes + mailboxes

-- 540
abbrev pub size : ℕ
size = settings_at + settings_long

abbrev pub pid : Pid → List ℕ
pid p = byte p.0

abbrev pub bid : Bid → List ℕ
bid b = byte b.0

abbrev pub queues : Queues → List ℕ
queues q = each pid q.next ++ each pid q.prev

abbrev pub procs : Procs → List ℕ
procs p = pid p.running ++ each byte p.class ++ each byte p.ticks ++ queues p.queues ++ le 4 p.ready ++ le 4 p.unused.0

abbrev pub boxes : Boxes → List ℕ
boxes b = each bid b.next ++ each bid b.prev

abbrev pub mail : Mail → List ℕ
mail m = boxes m.boxes ++ each bid m.hand ++ le 4 m.full.0 ++ each (le 2) m.length ++ le 4 m.free.0 ++ each bid m.chain

abbrev pub settings : Settings → List ℕ
settings x = byte x.slice ++ each byte x.capacity ++ each byte x.mode

unfoldable pub image : Kernel → List ℕ
image k = procs k.procs ++ mail k.mail ++ each (le 2) k.count ++ each byte k.births ++ settings k.settings

-- a struct's arrays have their lengths, and its numbers fit: so it is with every value of the struct type
abbrev pub U8 : ℕ → Type 0
U8 x = x < 2 ^ 8

abbrev pub U16 : ℕ → Type 0
U16 x = x < 2 ^ 16

abbrev pub U32 : ℕ → Type 0
U32 x = x < 2 ^ 32

pub record Array {A : Type 0} (n : ℕ) (Fits : A → Type 0) (l : List A) : Type 0 where
  pub long : length l ≡ n
  pub fit : (x : A) → Memᴰ x l → Fits x

pub record Sized (k : Kernel) : Type 0 where
  pub running : U8 k.procs.running.0
  pub class : Array processes U8 k.procs.class
  pub ticks : Array processes U8 k.procs.ticks
  pub next : Array nodes (λ p. U8 p.0) k.procs.queues.next
  pub prev : Array nodes (λ p. U8 p.0) k.procs.queues.prev
  pub ready : U32 k.procs.ready
  pub unused : U32 k.procs.unused.0
  pub box_next : Array box_nodes (λ b. U8 b.0) k.mail.boxes.next
  pub box_prev : Array box_nodes (λ b. U8 b.0) k.mail.boxes.prev
  pub hand : Array processes (λ b. U8 b.0) k.mail.hand
  pub full : U32 k.mail.full.0
  pub lengths : Array buffers U16 k.mail.length
  pub free : U32 k.mail.free.0
  pub chain : Array buffers (λ b. U8 b.0) k.mail.chain
  pub count : Array semaphores U16 k.count
  pub births : Array processes U8 k.births
  pub slice : U8 k.settings.slice
  pub capacity : Array mailboxes U8 k.settings.capacity
  pub mode : Array mailboxes U8 k.settings.mode

-- every field is zero
abbrev pub blank : Kernel
blank = record {
  procs = record {
    running = record { 0 = 0 };
    class = replicate processes 0;
    ticks = replicate processes 0;
    queues = record { next = replicate nodes (record { 0 = 0 }); prev = replicate nodes (record { 0 = 0 }) };
    ready = 0;
    unused = record { 0 = 0 };
  };
  mail = record {
    boxes = record { next = replicate box_nodes (record { 0 = 0 }); prev = replicate box_nodes (record { 0 = 0 }) };
    hand = replicate processes (record { 0 = 0 });
    full = record { 0 = 0 };
    length = replicate buffers 0;
    free = record { 0 = 0 };
    chain = replicate buffers (record { 0 = 0 });
  };
  count = replicate semaphores 0;
  births = replicate processes 0;
  settings = record { slice = 0; capacity = replicate mailboxes 0; mode = replicate mailboxes 0 };
}

-- what is read of an area: the kernel whose image it is, or zeros where it has another length
pub record Read (area : List ℕ) (k : Kernel) : Type 0 where
  pub whole : length area ≡ size → image k ≡ area
  pub other : (length area ≡ size → ⊥) → k ≡ blank

-- an area after k was written to it: k's image, or as it was where it has another length
pub record Written (k : Kernel) (area after : List ℕ) : Type 0 where
  pub whole : length area ≡ size → after ≡ image k
  pub other : (length area ≡ size → ⊥) → after ≡ area
