-- Proof of `Queue::run_out`, src/whole.rt. The time of an open ticket ran out: it is withdrawn, or ends as it was met
-- or cut.
use Rattle.std.proofs.Common.{refl}
use Rattle.meet_tickets.specs.declared.records.Cause.TheVariants.{Expired}
use Rattle.meet_tickets.specs.declared.records.Deed.TheVariants.{Withdrawn}
use Rattle.meet_sync.proofs.queue.Queue.run_out.Goals as goal

pub returns-in-Back-clause-outcome : goal.returns-in-Back-clause-outcome
returns-in-Back-clause-outcome g c = let h = c.in-Back.ensures in (h.0, h.1, (Withdrawn Expired, refl, h.2))
