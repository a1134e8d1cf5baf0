-- What stays true from turn to turn of `same_flags`, src/alike.rt.
use Rattle.std.proofs.Common.{◌≡◌, take}
use Rattle.meet_overlap.proofs.alike.same_flags.Given as goal

-- so far they are the same
abbrev pub invariant-loop-i : goal.invariant-loop-i
invariant-loop-i l = take l.i l.one ≡ take l.i l.other
