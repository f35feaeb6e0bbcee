-- `mail::Mail::set_hand` meets its contract: by whether it is given a message. Assumes nothing.
use Prim.Native.Nat.{ℕ}
use Rattle.boxes.specs.Box.{num}
use Rattle.mail.proofs.Mail.set_hand.Goals as goal
use Rattle.mail.specs.Carries.{Numbers, numbers}
use Rattle.mail.specs.Moves.{holding, given, emptied, set_in_hand}
use Rattle.sizes.specs.declared.Bid.{Bid}
use Rattle.std.proofs.lemmas.List.{map-set}
use Rattle.std.specs.Option.{unwrap_or, is_some}
use Rattle.std.specs.Prelude.{Option, Some, None}
use mathlib.Core.Path.{◌≡◌, refl}

held : (k : Numbers) (p : ℕ) (b : Option Bid) → holding k p (num (unwrap_or b (record { 0 = 0 }))) (is_some b) ≡ set_in_hand k p b
unfolding given emptied set_in_hand
held k p None = refl
held k p (Some b) = refl

pub returns : goal.returns
unfolding numbers
returns c = rw (c.set_entry.ensures, map-set, c.unwrap_or.ensures, c.put_bit-bits.ensures, c.is_some.ensures) (held (numbers c.args.self) c.args.p.0 c.args.b)
