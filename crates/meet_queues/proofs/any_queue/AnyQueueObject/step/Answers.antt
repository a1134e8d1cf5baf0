-- Proof of `AnyQueue::step`, src/any_queue.rt.
use Rattle.std.proofs.Common.{refl, ap}
use Rattle.meet_core.specs.QueueSteps.{bounded_kind}
use Rattle.meet_queues.proofs.any_queue.AnyQueueObject.step.Goals as goal

pub returns-in-Fair-clause-step : goal.returns-in-Fair-clause-step
returns-in-Fair-clause-step c =
    rw (← c.self.view_is, c.in-Fair.is) (refl, c.step.ensures.step.1)

pub returns-in-Unfair-clause-step : goal.returns-in-Unfair-clause-step
returns-in-Unfair-clause-step c =
    rw (← c.self.view_is, c.in-Unfair.is) (refl, c.step-in-Unfair.ensures.step.1)

pub returns-in-Transfer-clause-step : goal.returns-in-Transfer-clause-step
returns-in-Transfer-clause-step c =
    let step = c.step-in-Transfer.ensures.step in
    rw (← c.self.view_is, c.in-Transfer.is) (ap bounded_kind step.0, step.1)
