-- An area in which a state lies is read as the processes of that state.
-- Assumes nothing.
use Prim.Native.Nat.{ℕ}
use mathlib.Core.Path.{◌≡◌, refl, sym, ap, ◌∙◌}
use mathlib.Core.List.{List, [], ◌∷◌, ◌++◌, map, append_assoc}
use native.Mathlib.Omega.{arith}
use lib.ListN.{length, take, drop, length-append, length-map}
use lib.Seq.{take_at, drop_at}
use Rattle.plain.specs.Sizes.{processes}
use Rattle.promise.specs.Theorems.{Seats}
use Rattle.sizes.specs.declared.Pid.{Pid}
use Rattle.queues.specs.Queue.{num, tables_of}
use Rattle.procs.specs.Seating.{seated}
use Rattle.procs.specs.Stands.{numbers}
use Rattle.procs.specs.declared.Procs.{Procs}
use Rattle.kernel.proofs.One.{seats}
use Rattle.kernel.specs.Holds as Struct
use Rattle.kernel.specs.declared.Kernel.{Kernel}
use Rattle.image.specs.Bytes.{byte, le, each}
use Rattle.image.specs.Image.{image, mail, settings, pid, nodes, class_at, ticks_at, next_at, Sized}
use Rattle.board.specs.Area.{Lies, seating}

bytes_are : (l : List ℕ) → each byte l ≡ l
bytes_are [] = refl
bytes_are (x ∷ l) = ap (λ (r : List ℕ). x ∷ r) (bytes_are l)

links_are : (l : List Pid) → each pid l ≡ map num l
links_are [] = refl
links_are (x ∷ l) = ap (λ (r : List ℕ). num x ∷ r) (links_are l)

-- an area that begins with these
module _ (x : ℕ) (a b n rest : List ℕ) (la : length a ≡ processes) (lb : length b ≡ processes) (ln : length n ≡ nodes) where
  abbrev head : List ℕ
  head = x ∷ (a ++ b)

  abbrev area : List ℕ
  area = head ++ (n ++ rest)

  classes_there : take processes (drop class_at area) ≡ a
  classes_there = rw (drop_at (x ∷ []) ((a ++ b) ++ (n ++ rest)) class_at refl, append_assoc a b (n ++ rest)) (take_at a (b ++ (n ++ rest)) processes la)

  ticks_there : take processes (drop ticks_at area) ≡ b
  ticks_there = rw (append_assoc a b (n ++ rest), drop_at (x ∷ a) (b ++ (n ++ rest)) ticks_at (omega arith)) (take_at b (n ++ rest) processes lb)

  next_there : take nodes (drop next_at area) ≡ n
  next_there = rw (drop_at head (n ++ rest) next_at (omega (arith, length-append a b))) (take_at n rest nodes ln)

  laid_out : seating area ≡ seated x a b n
  laid_out = rw (classes_there, ticks_there, next_there)

regroup : (h n p r u m c b x : List ℕ) → h ++ (n ++ p) ++ r ++ u ++ m ++ c ++ b ++ x ≡ h ++ (n ++ (p ++ r ++ u ++ m ++ c ++ b ++ x))
regroup [] [] p r u m c b x = refl
regroup [] (y ∷ n) p r u m c b x = ap (λ (l : List ℕ). y ∷ l) (regroup [] n p r u m c b x)
regroup (y ∷ h) n p r u m c b x = ap (λ (l : List ℕ). y ∷ l) (regroup h n p r u m c b x)

image_seats : (k : Kernel) → Sized k → seating (image k) ≡ Struct.seating k
unfolding image numbers tables_of
image_seats k z =
    let p : Procs = k.procs in
    let prev : List ℕ = each pid p.queues.prev in
    let r : List ℕ = le 4 p.ready in
    let u : List ℕ = le 4 p.unused.0 in
    let m : List ℕ = mail k.mail in
    let c : List ℕ = each (le 2) k.count in
    let b : List ℕ = each byte k.births in
    let x : List ℕ = settings k.settings in
    rw (bytes_are p.class, bytes_are p.ticks, links_are p.queues.next)
    (ap seating (regroup (p.running.0 ∷ (p.class ++ p.ticks)) (map num p.queues.next) prev r u m c b x)
    ∙ laid_out p.running.0 p.class p.ticks (map num p.queues.next) (prev ++ r ++ u ++ m ++ c ++ b ++ x) z.class.long z.ticks.long (length-map p.queues.next num ∙ z.next.long))

pub area_seats : Seats Lies seating
area_seats area s l = ap seating (sym l.bytes) ∙ (image_seats l.kernel l.sized ∙ seats l.kernel s l.holds)
