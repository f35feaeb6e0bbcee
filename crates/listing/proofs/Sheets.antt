-- From a verdict to the sheet: one that holds the rows of a table, and one that holds none, are those of the promise.
-- Assumes nothing.
use Prim.Native.Nat.{ℕ}
use mathlib.Core.List.{List}
use mathlib.Core.Logic.{◌≢◌}
use mathlib.Core.Path.{◌≡◌, refl, sym, subst}
use native.Mathlib.Omega.{arith}
use Rattle.plain.specs.Calls as Plain
use Rattle.plain.specs.Listing.{listing}
use Rattle.std.specs.Prelude.{Option, Some, None}
use Rattle.plain.specs.State.{State}
use Rattle.kernel.proofs.Judging.{runner_is, refused_call, accepted_call, judged_passed}
use Rattle.kernel.specs.Judged.{Judged, refused_with}
use Rattle.promise.specs.Promise.{Asks}
use Rattle.kernel.specs.Promise.{Promised, said}
use Rattle.verdicts.specs.declared.Answer.{Answer}
use Rattle.kernel.specs.declared.Kernel.{Kernel}
use Rattle.verdicts.specs.Chain.{Verdict}
use Rattle.plain_laws.proofs.Refusals.{Proper}
use Rattle.image.specs.Image.{Sized, Read}
use Rattle.board.specs.Area.{Lies}
use Rattle.board.proofs.Calls.{asked}
use Rattle.rows.specs.Rows.{Shows}
use Rattle.rows.specs.declared.Row.{Row}
use Rattle.rows.specs.declared.Table.{Table}
use Rattle.listing.specs.Refusals.{refusals}
use Rattle.listing.specs.Sheets.{Ruled, Sheets}

proper : (room : ℕ) (s : State) → Proper (refusals room s)
proper room s = (omega arith, tt)

module _ (room : ℕ) (k : Kernel) (v : Verdict) (j : Judged (refusals room) k v) where
  abbrev Listing : Option (List Row) → Type 0
  Listing rows = Promised (λ s. listing s room) (λ s. Ruled s room rows) (rows ≡ None) k (refused_with k v)

  refused : v.code ≢ 0 → Listing None
  unfolding listing
  refused d = refused_call (refusals room) (Plain.done 0) (λ s. Ruled s room None) (None ≡ None) k v (proper room) d j (λ s n. n) refl

  accepted : v.code ≡ 0 → (t : Table) → Shows k t → Listing (Some t.rows)
  unfolding listing
  accepted z t w = accepted_call (refusals room) (Plain.done 0) (λ s. Ruled s room (Some t.rows)) (Some t.rows ≡ None) k v (proper room) z j (refused_with k v)
      (λ s H S p is. rw (judged_passed (proper room) z j).1 (record { next = H; answer = rw (runner_is k s H) refl }, (rw is refl, w.plain s H)))

module _ (room : ℕ) {k : Kernel} {v : Verdict} {area : List ℕ} {a : Answer} (z : Sized k) (r : Read area k) (j : Judged (refusals room) k v) (e : a ≡ (refused_with k v).answer) where
  on-area : (rows : Option (List Row)) → Listing room k v j rows → Sheets area room (record { answer = a; rows = rows })
  on-area rows p = subst (λ (a : Answer). Asks Lies (λ s. listing s room) (λ s. Ruled s room rows) (rows ≡ None) area (said a)) (sym e) (asked z r p)

  -- the sheet of a listing that is refused
  pub no_rows : v.code ≢ 0 → Sheets area room (record { answer = a; rows = None })
  no_rows d = on-area None (refused room k v j d)

  -- the sheet of one that is accepted
  pub all_rows : v.code ≡ 0 → (t : Table) → Shows k t → Sheets area room (record { answer = a; rows = Some t.rows })
  all_rows c t w = on-area (Some t.rows) (accepted room k v j c t w)
