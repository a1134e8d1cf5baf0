-- Proof of `ChosenQueue::request`, src/asking.rt. Makes a request, as `Queue::request`: settled at once, or parked with
-- its ticket open.
use Rattle.std.proofs.Common.{IfOk, sym, subst}
use Rattle.meet_sync.specs.Asking.{AskedAs}
use Rattle.meet_chosen.specs.Chosen.{kind_of}
use Rattle.meet_chosen.proofs.queue.ChosenQueue.request.Goals as goal

pub returns-in-Fair-clause-asked : goal.returns-in-Fair-clause-asked
returns-in-Fair-clause-asked g c = subst (λ queue. IfOk c.request.result (λ asked. AskedAs (kind_of queue) g.T.Marked.mark_of c.args.seat c.args.request asked)) (sym c.in-Fair.is) c.request.ensures.asked

pub returns-in-Unfair-clause-asked : goal.returns-in-Unfair-clause-asked
returns-in-Unfair-clause-asked g c = subst (λ queue. IfOk c.request-in-Unfair.result (λ asked. AskedAs (kind_of queue) g.T.Marked.mark_of c.args.seat c.args.request asked)) (sym c.in-Unfair.is) c.request-in-Unfair.ensures.asked

pub returns-in-Transfer-clause-asked : goal.returns-in-Transfer-clause-asked
returns-in-Transfer-clause-asked g c = subst (λ queue. IfOk c.request-in-Transfer.result (λ asked. AskedAs (kind_of queue) g.T.Marked.mark_of c.args.seat c.args.request asked)) (sym c.in-Transfer.is) c.request-in-Transfer.ensures.asked
