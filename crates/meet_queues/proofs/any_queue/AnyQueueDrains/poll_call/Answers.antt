-- Proof of `AnyQueue::poll_call`, src/any_queue.rt.
use Rattle.std.proofs.Common.{◌∙◌, sym, ap}
use Rattle.meet_tickets.specs.declared.places.End.TheVariants.{Front, Back}
use Rattle.meet_core.specs.QueueSteps.{kind_of}
use Rattle.meet_core.specs.QueueSteps.{bounded_kind}
use Rattle.meet_queues.specs.Queues.{of_kind}
use Rattle.meet_queues.proofs.Polling.{any-takes, kept-takes}
use Rattle.meet_queues.proofs.any_queue.AnyQueueDrains.poll_call.Goals as goal

pub returns-in-Fair-clause-takes : goal.returns-in-Fair-clause-takes
returns-in-Fair-clause-takes c = any-takes c.args.self.now (kind_of Front) c.in-Fair.queue.queue (ap of_kind (sym c.in-Fair.is) ∙ c.self.view_is) (kept-takes (λ bound. kind_of Front) c.in-Fair.queue c.poll_call.ensures.takes)

pub returns-in-Unfair-clause-takes : goal.returns-in-Unfair-clause-takes
returns-in-Unfair-clause-takes c = any-takes c.args.self.now (kind_of Back) c.in-Unfair.queue.queue (ap of_kind (sym c.in-Unfair.is) ∙ c.self.view_is) (kept-takes (λ bound. kind_of Back) c.in-Unfair.queue c.poll_call-in-Unfair.ensures.takes)

pub returns-in-Transfer-clause-takes : goal.returns-in-Transfer-clause-takes
returns-in-Transfer-clause-takes c = any-takes c.args.self.now (bounded_kind c.in-Transfer.queue.bound) c.in-Transfer.queue.queue (ap of_kind (sym c.in-Transfer.is) ∙ c.self.view_is) (kept-takes bounded_kind c.in-Transfer.queue c.poll_call-in-Transfer.ensures.takes)
