-- What stays true from turn to turn of `put_flag`, src/place.rt.
use Rattle.std.proofs.Common.{◌≡◌, ◌+◌, ◌-◌, length}
use Rattle.meet_overlap.specs.Places.{flag_at}
use Rattle.meet_overlap.proofs.place.put_flag.Given as goal

-- what is read stays the same
abbrev pub invariant-loop-flags : goal.invariant-loop-flags
invariant-loop-flags l = flag_at l.flags.items ≡ flag_at l.fn.flags.items

-- how many are missing
abbrev pub decreases-loop-flags : goal.decreases-loop-flags
decreases-loop-flags l = (l.index + 1) - length l.flags.items
