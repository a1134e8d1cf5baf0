-- Proof of `Queue::ask`, src/whole.rt. A whole call, of a queue of any kind: a request, and the wait for its ending,
-- for so many milliseconds where there is a limit.
use Rattle.meet_sync.proofs.Wholes.{waited}
use Rattle.meet_sync.proofs.queue.Queue.ask.Goals as goal

pub returns-in-Parked-clause-ended : goal.returns-in-Parked-clause-ended
returns-in-Parked-clause-ended g c =
    let out = c.await_end.ensures in
    waited g.O.QueuePlace.kind c.args.limit g.O.Item.Marked.mark_of c.args.seat c.in-Parked.pending c.args.request c.await_end.result
    (rw c.in-Parked.is at c.in-Ok.ensures.asked) out.outcome out.untimed
