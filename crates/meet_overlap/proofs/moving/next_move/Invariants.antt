-- What stays true from turn to turn of `next_move`, src/moving.rt.
use Rattle.meet_overlap.specs.Known.{HasNonePlayed}
use Rattle.meet_overlap.specs.Places.{world_of}
use Rattle.meet_overlap.proofs.moving.next_move.Given as goal

-- none of the calls so far begins a play, where none before the first of them does
abbrev pub invariant-loop-number : goal.invariant-loop-number
invariant-loop-number l = HasNonePlayed l.kind l.calls (world_of l.reached) l.from → HasNonePlayed l.kind l.calls (world_of l.reached) l.number
