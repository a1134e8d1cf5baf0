-- Proof of `Queue::close`, src/closing.rt. Ends the queue: takes all seats back, free or with an open ticket, in
-- whatever order, compares the records with the seats' receipts, and takes out what is left.
use Rattle.std.proofs.Common.{subst, map}
use Rattle.meet_book.specs.Listed.{AreListed}
use Rattle.meet_sync.proofs.Histories.{chapter_of}
use Rattle.meet_sync.proofs.queue.Queue.close.Goals as goal

pub returns-in-Ok-clause-history : goal.returns-in-Ok-clause-history
returns-in-Ok-clause-history g c =
    let laws = g.met.O.QueuePlace in
    let closed = c.in-Ok.closed in
    let legal = c.in-Ok.ensures.legal in
    record {
      chapter = chapter_of g.O.Item.Marked.mark_of g.O.QueuePlace.kind g.O.QueuePlace.queue_of g.O.Object.gone_of
          g.O.Object.no_base closed.base closed.records.items legal.0
          (laws.is_history closed.base closed.records.items legal.0 legal.2) laws.is_gone laws.is_no_base
          c.in-Ok.ensures.first;
      listed = subst (λ gone_of. AreListed (gone_of closed.base) closed.records.items
          (map (λ list. list.items) closed.lists.items)) laws.is_gone c.in-Ok.ensures.listed;
      left = g.met.O.QueueLeaves.is_left closed.base closed.records.items closed.left.items c.in-Ok.ensures.left;
    }
