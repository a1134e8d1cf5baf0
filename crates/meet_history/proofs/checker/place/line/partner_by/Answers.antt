-- Proof of `partner_by`, src/checker/place/line.rt. The partner of a request of this side leaves its line, in which so
-- many givers stand.
use Rattle.meet_history.proofs.checker.place.line.partner_by.Goals as goal

pub meet-requires-clause-side : goal.meet-requires-clause-side
meet-requires-clause-side c = rw c.in-Front.is at c.requires.side

pub meet-requires-in-Back-clause-side : goal.meet-requires-in-Back-clause-side
meet-requires-in-Back-clause-side c = rw c.in-Back.is at c.requires.side
