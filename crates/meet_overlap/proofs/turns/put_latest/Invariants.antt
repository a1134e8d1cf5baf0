-- What stays true from turn to turn of `put_latest`, src/turns.rt.
use Rattle.std.proofs.Common.{◌≡◌, ◌+◌, ◌-◌, length}
use Rattle.meet_overlap.specs.Places.{latest_at}
use Rattle.meet_overlap.proofs.turns.put_latest.Given as goal

-- what is read stays the same
abbrev pub invariant-loop-latest : goal.invariant-loop-latest
invariant-loop-latest l = latest_at l.latest.items ≡ latest_at l.fn.latest.items

-- how many are missing
abbrev pub decreases-loop-latest : goal.decreases-loop-latest
decreases-loop-latest l = (l.index + 1) - length l.latest.items
