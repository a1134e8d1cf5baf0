-- Proof of `transfer_book`, src/books.rt.
use Rattle.std.proofs.Common.{sym, subst, ◌<◌}
use Rattle.meet_core.specs.QueueSteps.{bounded_kind}
use Rattle.meet_core.proofs.Leading.{fresh-leads}
use Rattle.meet_queues.proofs.books.transfer_book.Goals as goal

pub new-requires-in-None-clause-fresh : goal.new-requires-in-None-clause-fresh
new-requires-in-None-clause-fresh g c = fresh-leads g.T.Marked.mark_of (bounded_kind c.in_ok-queue-in-None.queue.bound) c.in_ok-queue-in-None.queue.queue c.in_ok-queue-in-None.ensures.fresh c.in_ok-queue-in-None.ensures.unused (subst (λ n. 0 < n) (sym c.in_ok-queue-in-None.ensures.first) c.requires.first_from)

pub new-requires-in-Some-clause-fresh : goal.new-requires-in-Some-clause-fresh
new-requires-in-Some-clause-fresh g c = fresh-leads g.T.Marked.mark_of (bounded_kind c.in_ok-queue-in-Some.queue.bound) c.in_ok-queue-in-Some.queue.queue c.in_ok-queue-in-Some.ensures.fresh c.in_ok-queue-in-Some.ensures.unused (subst (λ n. 0 < n) (sym c.in_ok-queue-in-Some.ensures.first) c.requires.first_from)
