-- Proof of `next_move`, src/moving.rt. The next call from this number on that has an event, and what that leaves.
use Rattle.meet_overlap.specs.Places.{world_of}
use Rattle.meet_overlap.proofs.Barren.{none_too_late}
use Rattle.meet_overlap.proofs.moving.next_move.Goals as goal

pub returns-then-is_too_late-clause-none : goal.returns-then-is_too_late-clause-none
returns-then-is_too_late-clause-none c =
    let late = c.is_too_late.ensures c.if-is_too_late.true in
    λ before. none_too_late c.args.kind c.args.calls.now c.args.begins.now (world_of c.args.reached.now) c.loop-number.number c.first_due-due.result c.requires.least c.first_due-due.ensures late
    (c.loop-number.invariant before)
