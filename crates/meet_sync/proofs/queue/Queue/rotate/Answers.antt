-- Proof of `Queue::rotate`, src/chapters.rt. A checkpoint of a place that hands out what it folds away.
use Rattle.meet_sync.proofs.Histories.{chapter_of}
use Rattle.meet_sync.proofs.queue.Queue.rotate.Goals as goal

pub returns-in-Ok-clause-chapter : goal.returns-in-Ok-clause-chapter
returns-in-Ok-clause-chapter g c =
    let laws = g.met.O.QueuePlace in
    let chapter = c.in-Ok.chapter in
    let legal = c.in-Ok.ensures.legal in
    chapter_of g.O.Item.Marked.mark_of g.O.QueuePlace.kind g.O.QueuePlace.queue_of g.O.Object.gone_of
    g.O.Object.no_base chapter.base chapter.records.items legal.0
    (laws.is_history chapter.base chapter.records.items legal.0 legal.2) laws.is_gone laws.is_no_base
    c.in-Ok.ensures.first
