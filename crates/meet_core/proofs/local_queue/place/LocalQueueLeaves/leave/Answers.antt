-- Proof of `LocalQueue::leave`, src/local_queue/place.rt.
use Rattle.std.proofs.Common.{subst, sym, ap}
use Rattle.meet_core.specs.QueueSteps.{LeadsTo}
use Rattle.meet_core.proofs.Leavings.{left_on}
use Rattle.meet_core.proofs.local_queue.place.LocalQueueLeaves.leave.Goals as goal

pub returns : goal.returns
returns g c = λ base records leads.
    let left = c.into_left_by_ticket.ensures in
    let kind = g.K.Buffers.kind c.args.self.bound in
    left_on g.T.Marked.mark_of kind g.L.Line.end base records c.self.inside.meetings _
    (subst (LeadsTo g.T.Marked.mark_of kind base records) (ap (λ b. b.queue) (sym c.self.view_is)) leads) left.items left.rises
