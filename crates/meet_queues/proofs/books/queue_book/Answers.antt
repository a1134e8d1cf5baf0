-- Proof of `queue_book`, src/books.rt. The book of a new synchronous queue with this many seats, at most 65,536, this
-- first ticket, 1 to 2^63 - 1, and at most this many records, 1 to 1,048,576.
use Rattle.std.proofs.Common.{sym, subst, ◌<◌}
use Rattle.meet_core.specs.QueueSteps.{kind_of}
use Rattle.meet_core.proofs.Leading.{fresh-leads}
use Rattle.meet_queues.proofs.books.queue_book.Goals as goal

pub new-requires-2-clause-fresh : goal.new-requires-2-clause-fresh
new-requires-2-clause-fresh g c = fresh-leads g.T.Marked.mark_of (kind_of g.L.Line.end) c.in_ok-queue.queue.queue c.in_ok-queue.ensures.fresh c.in_ok-queue.ensures.unused (subst (λ n. 0 < n) (sym c.in_ok-queue.ensures.first) c.requires.first_from)
