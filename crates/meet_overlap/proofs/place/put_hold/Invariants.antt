-- What stays true from turn to turn of `put_hold`, src/place.rt.
use Rattle.std.proofs.Common.{◌≡◌, ◌+◌, ◌-◌, length}
use Rattle.meet_overlap.specs.Places.{hold_at}
use Rattle.meet_overlap.proofs.place.put_hold.Given as goal

-- what is read stays the same
abbrev pub invariant-loop-holds : goal.invariant-loop-holds
invariant-loop-holds l = hold_at l.holds.items ≡ hold_at l.fn.holds.items

-- how many are missing
abbrev pub decreases-loop-holds : goal.decreases-loop-holds
decreases-loop-holds l = (l.index + 1) - length l.holds.items
