-- Proof of `Meetings::give_admitted`, src/meetings/admitted.rt.
use Rattle.meet_core.proofs.meetings.Meetings.give_admitted.Goals as goal

pub wait-requires-clause-new : goal.wait-requires-clause-new
wait-requires-clause-new g c = rw (c.in-Err.ensures.unchanged, c.draw-ticket.ensures.next) c.draw-ticket.ensures.newest
