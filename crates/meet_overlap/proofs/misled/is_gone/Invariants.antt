-- What stays true from turn to turn of `is_gone`, src/misled.rt.
use Rattle.std.proofs.Common.{◌≡◌, ◌<◌, ℕ, Some, true}
use Rattle.std.specs.Prelude.{slice_get}
use Rattle.meet_tickets.specs.declared.lines.Entry.{Entry}
use Rattle.meet_overlap.proofs.misled.is_gone.Given as goal

-- none of those so far is one of the seat's that waits
abbrev pub invariant-loop-at : goal.invariant-loop-at
invariant-loop-at l = (n : ℕ) (e : Entry ℕ) → n < l.at → slice_get l.line n ≡ Some e → e.waits ≡ true → e.seat ≡ l.seat → ⊥
