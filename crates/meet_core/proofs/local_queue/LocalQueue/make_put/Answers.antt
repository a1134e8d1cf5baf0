-- Proof of `LocalQueue::make_put`, src/local_queue/place.rt.
use Rattle.std.proofs.Common.{sym, ◌∙◌}
use Rattle.meet_core.proofs.local_queue.LocalQueue.make_put.Goals as goal

pub put_admitted-put-requires-clause-buffers : goal.put_admitted-put-requires-clause-buffers
put_admitted-put-requires-clause-buffers g c = g.met.K.Buffers.buffers _ (sym c.keeps_items.ensures ∙ c.if-keeps_items.true)

pub invariant_of-self : goal.invariant_of-self
invariant_of-self g c = g.met.K.Buffers.allows_any _ (sym c.keeps_items.ensures ∙ c.if-keeps_items.true) _
