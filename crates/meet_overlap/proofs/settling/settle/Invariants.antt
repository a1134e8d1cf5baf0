-- What stays true from turn to turn of `settle`, src/settling.rt.
use Rattle.meet_overlap.specs.Known.{IsBarren}
use Rattle.meet_overlap.specs.Places.{world_of}
use Rattle.meet_overlap.proofs.settling.settle.Given as goal

-- what leads nowhere from here leads nowhere from the beginning
abbrev pub invariant-loop : goal.invariant-loop
invariant-loop l = IsBarren l.kind l.calls (world_of l.there) → IsBarren l.kind l.calls (world_of l.fn.reached)
