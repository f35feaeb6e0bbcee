-- The encodings of the structs, from those of their fields.
-- Assumes nothing.
use mathlib.Core.Path.{refl}
use Rattle.sizes.specs.declared.Pid.{Pid}
use Rattle.queues.specs.Queue.{Queues}
use Rattle.sizes.specs.declared.Bid.{Bid}
use Rattle.boxes.specs.Box.{Boxes}
use Rattle.procs.specs.declared.Procs.{Procs}
use Rattle.mail.specs.declared.Mail.{Mail}
use Rattle.kernel.specs.declared.Kernel.{Kernel}
use Rattle.kernel.specs.declared.Settings.{Settings}
use Rattle.plain.specs.Sizes.{processes, mailboxes, buffers, semaphores}
use Rattle.image.specs.Image.{nodes, box_nodes, queues_long, procs_long, boxes_long, mail_long, settings_long, size, pid, bid, queues, procs, boxes, mail, settings, image, U8, U16, U32, Array, Sized}
use Rattle.image.proofs.Codes.{Code, both, through, array, byte_code, le_code}

abbrev FitsPid : Pid → Type 0
FitsPid p = U8 p.0

abbrev FitsBid : Bid → Type 0
FitsBid b = U8 b.0

abbrev FitsQueues : Queues → Type 0
FitsQueues q = Array nodes FitsPid q.next × Array nodes FitsPid q.prev

abbrev FitsProcs : Procs → Type 0
FitsProcs p = ((((FitsPid p.running × Array processes U8 p.class) × Array processes U8 p.ticks) × FitsQueues p.queues) × U32 p.ready) × U32 p.unused.0

abbrev FitsBoxes : Boxes → Type 0
FitsBoxes b = Array box_nodes FitsBid b.next × Array box_nodes FitsBid b.prev

abbrev FitsMail : Mail → Type 0
FitsMail m = ((((FitsBoxes m.boxes × Array processes FitsBid m.hand) × U32 m.full.0) × Array buffers U16 m.length) × U32 m.free.0) × Array buffers FitsBid m.chain

abbrev FitsSettings : Settings → Type 0
FitsSettings x = (U8 x.slice × Array mailboxes U8 x.capacity) × Array mailboxes U8 x.mode

abbrev FitsKernel : Kernel → Type 0
FitsKernel k = (((FitsProcs k.procs × FitsMail k.mail) × Array semaphores U16 k.count) × Array processes U8 k.births) × FitsSettings k.settings

pid_code : Code pid 1 FitsPid
pid_code = through (λ (p : Pid). p.0) (λ n. record { 0 = n }) (λ n. refl) (λ p. refl) byte_code

bid_code : Code bid 1 FitsBid
bid_code = through (λ (b : Bid). b.0) (λ n. record { 0 = n }) (λ n. refl) (λ b. refl) byte_code

queues_code : Code queues queues_long FitsQueues
queues_code = through (λ (q : Queues). (q.next, q.prev)) (λ t. record { next = t.0; prev = t.1 }) (λ t. refl) (λ q. refl) (both (array pid_code nodes) (array pid_code nodes))

boxes_code : Code boxes boxes_long FitsBoxes
boxes_code = through (λ (b : Boxes). (b.next, b.prev)) (λ t. record { next = t.0; prev = t.1 }) (λ t. refl) (λ q. refl) (both (array bid_code box_nodes) (array bid_code box_nodes))

procs_code : Code procs procs_long FitsProcs
procs_code =
    through (λ (p : Procs). (((((p.running, p.class), p.ticks), p.queues), p.ready), p.unused.0))
    (λ t. record { running = t.0.0.0.0.0; class = t.0.0.0.0.1; ticks = t.0.0.0.1; queues = t.0.0.1; ready = t.0.1; unused = record { 0 = t.1 } }) (λ t. refl) (λ p. refl)
    (both (both (both (both (both pid_code (array byte_code processes)) (array byte_code processes)) queues_code) (le_code 4)) (le_code 4))

mail_code : Code mail mail_long FitsMail
mail_code =
    through (λ (m : Mail). (((((m.boxes, m.hand), m.full.0), m.length), m.free.0), m.chain))
    (λ t. record { boxes = t.0.0.0.0.0; hand = t.0.0.0.0.1; full = record { 0 = t.0.0.0.1 }; length = t.0.0.1; free = record { 0 = t.0.1 }; chain = t.1 }) (λ t. refl) (λ m. refl)
    (both (both (both (both (both boxes_code (array bid_code processes)) (le_code 4)) (array (le_code 2) buffers)) (le_code 4)) (array bid_code buffers))

settings_code : Code settings settings_long FitsSettings
settings_code =
    through (λ (x : Settings). ((x.slice, x.capacity), x.mode)) (λ t. record { slice = t.0.0; capacity = t.0.1; mode = t.1 }) (λ t. refl) (λ x. refl)
    (both (both byte_code (array byte_code mailboxes)) (array byte_code mailboxes))

kernel_code : Code image size FitsKernel
unfolding image
kernel_code =
    through (λ (k : Kernel). ((((k.procs, k.mail), k.count), k.births), k.settings))
    (λ t. record { procs = t.0.0.0.0; mail = t.0.0.0.1; count = t.0.0.1; births = t.0.1; settings = t.1 }) (λ t. refl) (λ k. refl)
    (both (both (both (both procs_code mail_code) (array (le_code 2) semaphores)) (array byte_code processes)) settings_code)

fits : (k : Kernel) → Sized k → FitsKernel k
fits k s =
    let procs : FitsProcs k.procs = (((((s.running, s.class), s.ticks), (s.next, s.prev)), s.ready), s.unused) in
    let mail : FitsMail k.mail = ((((((s.box_next, s.box_prev), s.hand), s.full), s.lengths), s.free), s.chain) in
    ((((procs, mail), s.count), s.births), ((s.slice, s.capacity), s.mode))

pub image_code : Code image size Sized
image_code = record {
  long = λ k s. kernel_code.long k (fits k s);
  bytes = λ k s. kernel_code.bytes k (fits k s);
  one = λ k n s t. kernel_code.one k n (fits k s) (fits n t);
  every = λ l e h. let x = kernel_code.every l e h in (x.0, sized_of x.0 x.1, x.2);
}
  where
    sized_of : (k : Kernel) → FitsKernel k → Sized k
    sized_of k f =
        let procs = f.0.0.0.0 in
        let mail = f.0.0.0.1 in
        record {
          running = procs.0.0.0.0.0;
          class = procs.0.0.0.0.1;
          ticks = procs.0.0.0.1;
          next = procs.0.0.1.0;
          prev = procs.0.0.1.1;
          ready = procs.0.1;
          unused = procs.1;
          box_next = mail.0.0.0.0.0.0;
          box_prev = mail.0.0.0.0.0.1;
          hand = mail.0.0.0.0.1;
          full = mail.0.0.0.1;
          lengths = mail.0.0.1;
          free = mail.0.1;
          chain = mail.1;
          count = f.0.0.1;
          births = f.0.1;
          slice = f.1.0.0;
          capacity = f.1.0.1;
          mode = f.1.1;
        }
