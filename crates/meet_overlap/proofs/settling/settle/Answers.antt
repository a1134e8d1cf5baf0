-- Proof of `settle`, src/settling.rt. The world after the endings of all calls that were met or cut.
use Rattle.meet_overlap.specs.Known.{IsBarren}
use Rattle.meet_overlap.specs.Places.{world_of}
use Rattle.meet_overlap.proofs.settling.settle.Goals as goal

pub loop-preserved : goal.loop-preserved
loop-preserved c =
    let k = c.args.kind in
    let calls = c.args.calls.now in
    let moved : IsBarren k calls (world_of c.in-Some.moved.reached) → IsBarren k calls (world_of c.loop.there) = rw c.in-Some.is at c.in_ok-settled_move.ensures in
    λ barren. c.loop.invariant (moved barren)
