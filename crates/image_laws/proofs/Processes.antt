-- The processes of a sound state as a struct, over any tables that hold their queues.
-- Assumes nothing.
use Prim.Native.Nat.{ℕ}
use mathlib.Core.Path.{◌≡◌, refl, sym, subst}
use mathlib.Core.Logic.{◌≢◌, ⊎_elim}
use mathlib.Core.List.{map}
use native.Mathlib.Omega.{arith}
use Rattle.lists.specs.Lists.{occurs}
use Rattle.std.proofs.lemmas.Bool.{cases_eq}
use Rattle.lists.proofs.Laws.{total_zero}
use Rattle.bits.specs.Word.{width, word}
use Rattle.rings.specs.Ring.{Tables, Rings}
use Rattle.queues.specs.Queue.{num, tables_of}
use Rattle.sizes.specs.declared.Pid.{Pid}
use Rattle.plain.specs.Sizes.{processes, queues}
use Rattle.plain.specs.Sound.{Seated}
use Rattle.plain.specs.State as Plain
use Rattle.plain_laws.proofs.Seats.{member}
use Rattle.procs.specs.Stands.{numbers, is_ready, is_unused, Stands, Keeps}
use Rattle.procs.specs.declared.Procs.{Procs}
use Rattle.image_laws.proofs.Arrays.{values, values_long, values-at, unit_tables}
use Rattle.image_laws.proofs.Tables.{Orderly}

abbrev pub pid : ℕ → Pid
pid x = record { 0 = x }

-- the queues are the tables t
abbrev pub procs_of : Plain.Procs → Tables → Procs
procs_of s t = record {
  running = pid s.running;
  class = values processes s.class;
  ticks = values processes s.ticks;
  queues = record { next = map pid t.next; prev = map pid t.prev };
  ready = word width (is_ready s.queue);
  unused = record { 0 = word width (is_unused s) };
}

module _ (s : Plain.Procs) {n : ℕ} (S : Seated n s) where
  pub queues_orderly : Orderly processes queues s.queue
  unfolding Plain.spots
  queues_orderly = record {
    beyond = S.no_more_queues;
    members = λ q p o. (member n s S q p o).1;
    once = λ p. ⊎_elim
        (λ (e : p ≡ 0). omega (arith, total_zero queues (λ q. occurs p (s.queue q)) (λ q h. rw e (S.null_nowhere q))))
        (λ (d : p ≢ 0). omega (arith, S.one_place p (omega arith)))
        (cases_eq p 0);
  }

  stands : (t : Tables) → Rings processes queues t s.queue → Stands (numbers (procs_of s t)) s
  unfolding numbers tables_of
  stands t R = record {
    classes_long = values_long processes s.class;
    ticks_long = values_long processes s.ticks;
    running = refl;
    class = values-at processes s.class (λ p h. (S.unused_zeros p (S.nobody_else p h)).0);
    ticks = values-at processes s.ticks (λ p h. (S.unused_zeros p (S.nobody_else p h)).1);
    queues = subst (λ (u : Tables). Rings processes queues u s.queue) (sym (unit_tables num pid (λ x. refl) t)) R;
    ready = refl;
  }

  pub keeps : (t : Tables) → Rings processes queues t s.queue → Keeps (numbers (procs_of s t)) s
  unfolding numbers
  keeps t R = record { stands = stands t R; unused = refl }
