-- Proof of `LocalQueue::base`, src/local_queue/place.rt.
use Rattle.std.proofs.lemmas.Result.{IfOk-weaker}
use Rattle.meet_core.proofs.Leading.{base-leads}
use Rattle.meet_core.proofs.local_queue.place.LocalQueueBases.base.Goals as goal

pub returns-clause-leads : goal.returns-clause-leads
returns-clause-leads g c = IfOk-weaker _ _ _ (λ new is. base-leads g.T.Marked.mark_of (g.K.Buffers.kind c.args.self.now.bound) c.args.self.now.queue c.args.gone new is) c.base.ensures.base
