-- Proof of `see`, src/queues.rt. Looks at a queue.
use Rattle.std.proofs.Common.{◌∙◌, ap, length}
use Rattle.std.specs.Option.{unwrap_or}
use Rattle.meet_tickets.specs.Meeting.{waiting_count, kept_count}
use Rattle.meet_tickets.specs.BySeat.{settled_of}
use Rattle.meet_core.specs.Queue.{seats_of, count_of}
use Rattle.meet_queues.specs.Probes.{size_of, remaining_of, peek_of}
use Rattle.meet_c.specs.Looks.{count_of_option}
use Rattle.meet_c.proofs.queues.see.Goals as goal

pub returns : goal.returns
returns c =
    let here = c.probe-queue.ensures in
    let first = c.peek_mark-first.ensures ∙ ap (λ o. peek_of o.kind.order o.queue.line) here in
    λ i. record {
      size = (c.size.ensures ∙ ap (λ o. size_of o.kind.order o.queue.line) here) i;
      remaining_capacity = (c.remaining_capacity.ensures ∙ ap (λ o. remaining_of o.kind.order) here) i;
      has_first = (c.count_of_option.ensures ∙ ap count_of_option first) i;
      first = (c.unwrap_or.ensures ∙ ap (λ o. unwrap_or o 0) first) i;
      waiting = (c.waiting.ensures ∙ ap (λ o. waiting_count o.queue.line) here) i;
      uncollected = (c.uncollected.ensures ∙ ap (λ o. settled_of (count_of o.queue) (seats_of o.queue).holds) here) i;
      kept = (c.kept.ensures ∙ ap (λ o. kept_count o.queue.line) here) i;
      records = ap length c.records.ensures.records i;
      written = c.written.ensures i;
    }
