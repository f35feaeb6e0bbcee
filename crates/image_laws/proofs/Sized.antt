-- Every struct that holds a sound state is sized: its numbers fit their bytes.
-- Assumes nothing.
use Prim.Native.Nat.{ℕ, ◌+◌, ◌^◌, ◌≤◌}
use mathlib.Core.Path.{◌≡◌, sym, ap, ◌∙◌, subst}
use mathlib.Core.Bool.{Bool}
use mathlib.Core.List.{List, map}
use native.Mathlib.Omega.{arith}
use lib.ListN.{length}
use Rattle.bits.specs.Word.{width, word}
use Rattle.bits.proofs.Words.{word_below}
use Rattle.rings.specs.Ring.{Rings}
use Rattle.rings.specs.Units.{numbered}
use Rattle.queues.specs.Queue as Queue
use Rattle.boxes.specs.Box as Box
use Rattle.plain.specs.Mailboxes.{most_queued}
use Rattle.plain.specs.Sizes.{processes, mailboxes, buffers, longest, semaphores, highest_count}
use Rattle.plain.specs.Sound.{Sound}
use Rattle.plain.specs.Start.{longest_slice}
use Rattle.plain.specs.State.{Settings, State, usual}
use Rattle.plain_laws.proofs.Seats.{runner_range}
use Rattle.procs.specs.Stands as Stands
use Rattle.mail.specs.Carries.{numbers, is_full, is_free}
use Rattle.habits.proofs.Laws as Habits
use Rattle.habits.specs.Tables.{entry_in}
use Rattle.kernel.specs.Holds.{Holds}
use Rattle.kernel.specs.declared.Kernel.{Kernel}
use Rattle.image.specs.Image.{U8, U16, U32, Array, Sized}
use Rattle.image_laws.proofs.Arrays.{fitting, units_fit}
use Rattle.image_laws.proofs.Limits.{hand_inside, short, link_inside}
use Rattle.image_laws.proofs.Nodes.{inside}

-- ---- tables of links

-- of no more nodes than a byte has values
module _ {A : Type 0} (num : A → ℕ) {n m : ℕ} (next prev : List A) {f : ℕ → List ℕ} (R : Rings n m (numbered num next prev) f) (few : n + m ≤ 2 ^ 8) where
  nexts_fit : Array (n + m) (λ x. U8 (num x)) next
  nexts_fit = units_fit num {F = U8} next (fitting U8 (n + m) (map num next) R.nexts (λ i h. omega (arith, (inside R i h).0)))

  prevs_fit : Array (n + m) (λ x. U8 (num x)) prev
  prevs_fit = units_fit num {F = U8} prev (fitting U8 (n + m) (map num prev) R.prevs (λ i h. omega (arith, (inside R i h).1)))

-- ---- bits

bits_fit : {w : ℕ} (t : ℕ → Bool) → w ≡ word width t → U32 w
bits_fit t e = omega (arith, e, word_below width t)

-- ---- what is set of each mailbox

entries_fit : (start f : ℕ → ℕ) (t : List ℕ) → length t ≡ mailboxes → f ≡ entry_in start t → ((m : ℕ) → U8 (f m)) → Array mailboxes U8 t
entries_fit start f t long is small = fitting U8 mailboxes t long (λ m h. subst U8 (ap (λ (g : ℕ → ℕ). g m) is ∙ sym (Habits.inside t m 0 (start m) (omega arith))) (small m))

-- ---- the whole

pub sized : {k : Kernel} {s : State} → Holds k s → Sound s → Sized k
unfolding Stands.numbers numbers Queue.tables_of Box.tables_of longest highest_count longest_slice most_queued
sized {k} {s} H S =
    let P = H.procs.stands in
    let K = H.mail in
    record {
      running = omega (arith, P.running, runner_range s.settings.slice s.procs S.seated);
      class = fitting U8 processes k.procs.class P.classes_long (λ p h. omega (arith, P.class p, S.seated.in_class p));
      ticks = fitting U8 processes k.procs.ticks P.ticks_long (λ p h. omega (arith, P.ticks p, S.seated.ticks_most p, S.settings.not_over));
      next = nexts_fit Queue.num k.procs.queues.next k.procs.queues.prev P.queues (omega arith);
      prev = prevs_fit Queue.num k.procs.queues.next k.procs.queues.prev P.queues (omega arith);
      ready = bits_fit (Stands.is_ready s.procs.queue) P.ready;
      unused = bits_fit (Stands.is_unused s.procs) H.procs.unused;
      box_next = nexts_fit Box.num k.mail.boxes.next k.mail.boxes.prev K.boxes (omega arith);
      box_prev = prevs_fit Box.num k.mail.boxes.next k.mail.boxes.prev K.boxes (omega arith);
      hand = units_fit Box.num {F = U8} k.mail.hand (fitting U8 processes (map Box.num k.mail.hand) K.hands_long (λ p h. omega (arith, K.hands p, hand_inside K S.mail p)));
      full = bits_fit (is_full s.hand) K.full;
      lengths = fitting U16 buffers k.mail.length K.lengths_long (λ b h. omega (arith, short K S.mail b));
      free = bits_fit (is_free s.box s.hand) K.free;
      chain = units_fit Box.num {F = U8} k.mail.chain (fitting U8 buffers (map Box.num k.mail.chain) K.chain_long (λ b h. omega (arith, link_inside K S.mail b h)));
      count = fitting U16 semaphores k.count H.counts.long (λ i h. omega (arith, H.counts.each i, S.counts.most i));
      births = fitting U8 processes k.births H.births.long (λ p h. omega (arith, H.births.each p, S.births.most p));
      slice = omega (arith, ap (λ (x : Settings). x.slice) H.settings.is, S.settings.not_over);
      capacity = entries_fit usual.capacity s.settings.capacity k.settings.capacity H.settings.capacities (ap (λ (x : Settings). x.capacity) H.settings.is) (λ m. omega (arith, S.settings.habits.most m));
      mode = entries_fit usual.mode s.settings.mode k.settings.mode H.settings.modes (ap (λ (x : Settings). x.mode) H.settings.is) (λ m. omega (arith, S.settings.habits.modes m));
    }
