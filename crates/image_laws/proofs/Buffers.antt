-- The tables of lengths and of links that have given messages, none of whose buffers stands twice.
-- Assumes nothing.
use Prim.Native.Nat.{ℕ, ◌+◌, ◌≤◌, ◌<◌}
use mathlib.Core.Path.{◌≡◌, ◌∙◌}
use mathlib.Core.List.{List, [], ◌∷◌}
use native.Mathlib.Omega.{arith}
use lib.ListN.{length, get_or, set, replicate, length-set, length-replicate}
use lib.Seq.{get_or-set_same}
use Rattle.lists.specs.Lists.{occurs}
use Rattle.lists.proofs.Laws.{one_same, occurs-append, zeros}
use Rattle.chains.specs.Led.{after}
use Rattle.chains.specs.Links.{own, link_up}
use Rattle.chains.proofs.Laws.{Once, linked-length, linked_other, linked_list, own-length, own-after}
use Rattle.plain.specs.Pages.{needed, Whole}
use Rattle.plain.specs.Sizes.{buffers}
use Rattle.plain.specs.State.{Message, Each, buffers_of}
use Rattle.mail.specs.Carries.{first_of, firsts, Has}
use Rattle.mail.proofs.Held.{head_there}
use Rattle.mail.proofs.Parts.{set_off, each_kept}

-- each message's length at its first buffer, 0 elsewhere
unfoldable pub lengths_of : List Message → List ℕ
lengths_of [] = replicate buffers 0
lengths_of (x ∷ l) = set (lengths_of l) (first_of x) (length x.bytes)

-- each message's buffers linked up, and every other buffer to itself
unfoldable pub links_of : List Message → List ℕ
links_of [] = own
links_of (x ∷ l) = link_up (links_of l) x.lies

pub lengths_long : (l : List Message) → length (lengths_of l) ≡ buffers
unfolding lengths_of
lengths_long [] = length-replicate {A = ℕ} buffers 0
lengths_long (x ∷ l) = length-set (lengths_of l) (first_of x) (length x.bytes) ∙ lengths_long l

pub links_long : (l : List Message) → length (links_of l) ≡ buffers
unfolding links_of
links_long [] = own-length
links_long (x ∷ l) = linked-length (links_of l) x.lies ∙ links_long l

pub no_length : (l : List Message) (b : ℕ) → occurs b (firsts l) ≡ 0 → get_or (lengths_of l) b 0 ≡ 0
unfolding lengths_of
no_length [] b z = zeros buffers b
no_length (x ∷ l) b z =
    set_off (lengths_of l) (first_of x) (length x.bytes) (first_of x ∷ []) (omega (arith, one_same (first_of x))) b (omega arith) ∙ no_length l b (omega arith)

pub left_alone : (l : List Message) (b : ℕ) → b < buffers → occurs b (buffers_of l) ≡ 0 → after (links_of l) b ≡ b
unfolding links_of
left_alone [] b h z = own-after b h
left_alone (x ∷ l) b h z =
    let parts = occurs-append b x.lies (buffers_of l) in
    linked_other (links_of l) x.lies b (omega arith) ∙ left_alone l b h (omega arith)

pub had : (l : List Message) → Each Whole l → Once buffers (buffers_of l) → Each (Has (lengths_of l) (links_of l)) l
unfolding lengths_of links_of needed
had [] w o = tt
had (x ∷ l) w o =
    let some : 1 ≤ length x.lies = omega (arith, w.0.many) in
    let there = head_there x.lies some in
    let parts : (p : ℕ) → occurs p (buffers_of (x ∷ l)) ≡ occurs p x.lies + occurs p (buffers_of l) = λ p. occurs-append p x.lies (buffers_of l) in (
      record {
        long = get_or-set_same (lengths_of l) (first_of x) (length x.bytes) 0 (omega (arith, lengths_long l, o.1 (first_of x) (omega (arith, parts (first_of x)))));
        led = linked_list (links_of l) x.lies some (λ p. omega (arith, o.0 p, parts p), λ p h. omega (arith, links_long l, o.1 p (omega (arith, parts p))));
        many = w.0.many;
      },
      each_kept (lengths_of l) (lengths_of (x ∷ l)) (links_of l) (links_of (x ∷ l)) x.lies
          (set_off (lengths_of l) (first_of x) (length x.bytes) x.lies there)
          (linked_other (links_of l) x.lies) l
          (λ p h. omega (arith, o.0 p, parts p))
          (had l w.1 (λ p. omega (arith, o.0 p, parts p), λ p h. o.1 p (omega (arith, parts p)))),
    )
