-- What stays true from turn to turn of `take_many`, src/followers.rt.
use Rattle.meet_c.proofs.Taking.{HasTakenMany}
use Rattle.meet_c.proofs.followers.take_many.Given as goal

-- the records so far were taken in
abbrev pub invariant-loop-entry : goal.invariant-loop-entry
invariant-loop-entry l = HasTakenMany l.fn.follower l.entries l.entry-index l.follower
