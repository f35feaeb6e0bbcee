-- Every value of the struct type is `Sized`: what the check knows of a parameter (`c.good`) or a result (`.ok`) of the type says so.
-- Assumes nothing.
use mathlib.Core.Logic.{⊎_elim}
use mathlib.Core.List.Memᴰ
use mathlib.Core.List.{List, [], ◌∷◌, Memᴰ}
use Prim.Native.Nat.{ℕ}
use mir.Val.{Val}
use denote.Shadow.{shadow}
use denote.Laws.{Is}
use denote.Array
use denote.Array.{each}
use denote.RattleType.{RattleType}
use denote.Builtin.{u8, u16}
use denote.Struct.Declared.{row}
use Rattle.sizes.specs.contracts.Pid as Pid
use Rattle.sizes.specs.contracts.Bid as Bid
use Rattle.kernel.specs.contracts.Kernel as Kernel
use Rattle.kernel.specs.declared.Kernel.{Kernel}
use Rattle.plain.specs.Sizes.{processes, mailboxes, buffers, semaphores}
use Rattle.image.specs.Image.{nodes, box_nodes, U8, U16, Array, Sized}

module _ (R : RattleType) (P : R.Denot → Type 0) (fit : (x : R.Denot) (vs : List Val) → Is R x vs → P x) where
  entries : (l : List R.Denot) (us : List Val) → shadow (each R.Denot R.own_val l us) → (x : R.Denot) → Memᴰ x l → P x
  entries [] us p x m = absurd (Memᴰ.not-nil m)
  entries (y ∷ l) [] p x m = absurd p
  entries (y ∷ l) (u ∷ us) p x m = ⊎_elim (λ e. rw e (fit y (u ∷ []) p.0)) (entries l us p.1 x) (Memᴰ.cases_cons m)

  array : (n : ℕ) (l : List R.Denot) (vs : List Val) → Is (Array.Array R n) l vs → Array n P l
  array n l vs p = record { long = p.1.0.1; fit = entries l p.0 p.1.1 }

pub sized : (k : Kernel) (vs : List Val) → Is (row Kernel.the_type) k vs → Sized k
sized k vs p =
    let fields = p.1.1 in
    let procs = fields.0.1.1 in
    let queues = procs.1.1.1.0.1.1 in
    let mail = fields.1.0.1.1 in
    let boxes = mail.0.1.1 in
    let settings = fields.1.1.1.1.0.1.1 in
    let bytes = array u8 U8 (λ x vs q. q.1) in
    let pids = array Pid.the_row (λ p. U8 p.0) (λ x vs q. q.1.1.0.1) in
    let bids = array Bid.the_row (λ b. U8 b.0) (λ x vs q. q.1.1.0.1) in
    let pairs = array u16 U16 (λ x vs q. q.1) in
    record {
      running = procs.0.1.1.0.1;
      class = bytes processes k.procs.class _ procs.1.0;
      ticks = bytes processes k.procs.ticks _ procs.1.1.0;
      next = pids nodes k.procs.queues.next _ queues.0;
      prev = pids nodes k.procs.queues.prev _ queues.1.0;
      ready = procs.1.1.1.1.0.1;
      unused = procs.1.1.1.1.1.0.1.1.0.1;
      box_next = bids box_nodes k.mail.boxes.next _ boxes.0;
      box_prev = bids box_nodes k.mail.boxes.prev _ boxes.1.0;
      hand = bids processes k.mail.hand _ mail.1.0;
      full = mail.1.1.0.1.1.0.1;
      lengths = pairs buffers k.mail.length _ mail.1.1.1.0;
      free = mail.1.1.1.1.0.1.1.0.1;
      chain = bids buffers k.mail.chain _ mail.1.1.1.1.1.0;
      count = pairs semaphores k.count _ fields.1.1.0;
      births = bytes processes k.births _ fields.1.1.1.0;
      slice = settings.0.1;
      capacity = bytes mailboxes k.settings.capacity _ settings.1.0;
      mode = bytes mailboxes k.settings.mode _ settings.1.1.0;
    }
