-- Proof of `AnyQueue::base`, src/any_queue.rt.
use Rattle.std.proofs.lemmas.Result.{IfOk-weaker}
use Rattle.meet_core.proofs.Leading.{base-leads}
use Rattle.meet_queues.proofs.any_queue.AnyQueueBases.base.Goals as goal

pub returns-in-Fair-clause-leads : goal.returns-in-Fair-clause-leads
returns-in-Fair-clause-leads c = rw (← c.self.view_is, c.in-Fair.is) (IfOk-weaker _ _ _ (λ new is. base-leads (λ mark. mark) _ c.in-Fair.queue.queue c.args.gone new is) c.base.ensures.base)

pub returns-in-Unfair-clause-leads : goal.returns-in-Unfair-clause-leads
returns-in-Unfair-clause-leads c = rw (← c.self.view_is, c.in-Unfair.is) (IfOk-weaker _ _ _ (λ new is. base-leads (λ mark. mark) _ c.in-Unfair.queue.queue c.args.gone new is) c.base-in-Unfair.ensures.base)

pub returns-in-Transfer-clause-leads : goal.returns-in-Transfer-clause-leads
returns-in-Transfer-clause-leads c = rw (← c.self.view_is, c.in-Transfer.is) (IfOk-weaker _ _ _ (λ new is. base-leads (λ mark. mark) _ c.in-Transfer.queue.queue c.args.gone new is) c.base-in-Transfer.ensures.base)
