-- Proof of `QueueHandle::send`, src/handle.rt.
use Rattle.meet_sync.specs.Ending.{MayRunOut}
use Rattle.meet_tasks.proofs.Ends.{not_sent}
use Rattle.meet_tasks.proofs.handle.QueueHandle.send.Goals as goal

pub returns-clause-unsent : goal.returns-clause-unsent
returns-clause-unsent g c =
    let handle = g.Self.QueueHandle.handle_of in let e = c.ask.ensures in
    not_sent g.Self.QueueHandle.cap g.Self.QueueHandle.count g.Self.Probes.kind (MayRunOut c.args.limit) g.T.Marked.mark_of
    (handle c.args.self.now) (handle c.ask.new.self) c.args.request c.ask.result c.sent.result e.ended e.same e.item e.why
    c.sent.ensures.unsent
