-- Proof of `Meetings::take_admitted`, src/meetings/admitted.rt.
use Rattle.meet_core.proofs.meetings.Meetings.take_admitted.Goals as goal

pub wait-requires-clause-new : goal.wait-requires-clause-new
wait-requires-clause-new g c = rw (c.in-None.ensures.unchanged, c.draw-ticket.ensures.next) c.draw-ticket.ensures.newest
