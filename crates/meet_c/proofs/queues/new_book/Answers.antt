-- Proof of `new_book`, src/queues.rt. The book of a new queue.
use Rattle.std.proofs.Common.{sym, subst, ◌<◌}
use Rattle.meet_core.proofs.Leading.{fresh-leads}
use Rattle.meet_c.proofs.queues.new_book.Goals as goal

pub new-book-requires-clause-fresh : goal.new-book-requires-clause-fresh
new-book-requires-clause-fresh c =
    fresh-leads (λ mark. mark) c.in_ok-queue.queue.kind c.in_ok-queue.queue.queue c.in_ok-queue.ensures.fresh c.in_ok-queue.ensures.unused (subst (λ n. 0 < n) (sym c.in_ok-queue.ensures.first) c.requires.first.0)
