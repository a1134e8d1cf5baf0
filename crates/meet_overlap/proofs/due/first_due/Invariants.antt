-- What stays true from turn to turn of `first_due`, src/due.rt.
use Rattle.std.specs.Prelude.{IfSome}
use Rattle.meet_overlap.specs.Known.{IsDue}
use Rattle.meet_overlap.specs.Places.{world_of}
use Rattle.meet_overlap.proofs.due.first_due.Given as goal

-- what was found is due
abbrev pub invariant-loop-number : goal.invariant-loop-number
invariant-loop-number l = IfSome l.least (λ due. IsDue l.calls (world_of l.reached) due.number due.at)
