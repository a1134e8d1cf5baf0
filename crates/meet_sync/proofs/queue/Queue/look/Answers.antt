-- Proof of `Queue::look`, src/whole.rt. Follows an open ticket up: how it ended, or the ticket as it was.
use Rattle.std.proofs.Common.{refl}
use Rattle.meet_tickets.specs.declared.records.Cause.TheVariants.{Interrupted}
use Rattle.meet_tickets.specs.declared.records.Deed.TheVariants.{Done, Got, Withdrawn}
use Rattle.meet_sync.proofs.queue.Queue.look.Goals as goal

pub returns-in-Done-clause-outcome : goal.returns-in-Done-clause-outcome
returns-in-Done-clause-outcome g c =
    let h = c.in-Done.ensures in (h.0, tt, (Done, refl, h.1))

pub returns-in-Got-clause-outcome : goal.returns-in-Got-clause-outcome
returns-in-Got-clause-outcome g c =
    let h = c.in-Got.ensures in (h.0, tt, (Got (g.O.Item.Marked.mark_of c.in-Got.item) c.in-Got.with, refl, h.1))

pub returns-in-Interrupted-clause-outcome : goal.returns-in-Interrupted-clause-outcome
returns-in-Interrupted-clause-outcome g c =
    let h = c.in-Interrupted.ensures in (h.0, h.1, (Withdrawn Interrupted, refl, h.2))
