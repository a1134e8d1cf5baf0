-- What stays true from turn to turn of `copied_holds`, src/place.rt.
use Rattle.std.proofs.Common.{◌≡◌, take}
use Rattle.meet_overlap.proofs.place.copied_holds.Given as goal

-- so many are copied
abbrev pub invariant-loop-hold : goal.invariant-loop-hold
invariant-loop-hold l = l.copy.items ≡ take l.hold-index l.holds
