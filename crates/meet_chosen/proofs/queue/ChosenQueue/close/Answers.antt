-- Proof of `ChosenQueue::close`, src/queue.rt. Ends the queue, as `Queue::close`: takes all seats back, free or with an
-- open ticket, in whatever order, compares the records with the seats' receipts, and takes out what is left.
use Rattle.std.proofs.Common.{sym, subst}
use Rattle.meet_chosen.specs.Chosen.{ChosenFaultFits}
use Rattle.meet_chosen.proofs.queue.ChosenQueue.close.Goals as goal

pub returns-in-Err-clause-fault : goal.returns-in-Err-clause-fault
returns-in-Err-clause-fault g c = subst (λ chosen. ChosenFaultFits chosen c.args.seats.items c.fair_fault.result) (sym c.in-Fair.is) (c.fair_fault.ensures c.in-Fair.queue c.args.seats.items c.in-Err.ensures.fault)

pub returns-in-Err-close-clause-fault : goal.returns-in-Err-close-clause-fault
returns-in-Err-close-clause-fault g c = subst (λ chosen. ChosenFaultFits chosen c.args.seats.items c.unfair_fault.result) (sym c.in-Unfair.is) (c.unfair_fault.ensures c.in-Unfair.queue c.args.seats.items c.in-Err-close.ensures.fault)

pub returns-in-Err-close-2-clause-fault : goal.returns-in-Err-close-2-clause-fault
returns-in-Err-close-2-clause-fault g c = subst (λ chosen. ChosenFaultFits chosen c.args.seats.items c.transfer_fault.result) (sym c.in-Transfer.is) (c.transfer_fault.ensures c.in-Transfer.queue c.args.seats.items c.in-Err-close-2.ensures.fault)
