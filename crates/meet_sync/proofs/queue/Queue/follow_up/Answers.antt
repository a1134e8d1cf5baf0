-- Proof of `Queue::follow_up`, src/endings.rt. Follows an open ticket up: how it ended, or NotYet while it stands in the
-- line.
use Rattle.std.proofs.Common.{refl, ap, ◌∙◌}
use Rattle.meet_core.specs.QueueRecords.{queue_record}
use Rattle.meet_core.specs.declared.answers.Followed.TheVariants.{NotYet}
use Rattle.meet_core.specs.declared.calls.queue_calls.QueueAnswer.TheVariants.{Followed}
use Rattle.meet_core.specs.declared.calls.queue_calls.QueueCall.TheVariants.{FollowUp}
use Rattle.meet_sync.proofs.Looked.{looked_same, none_came, pending_same}
use Rattle.meet_sync.proofs.queue.Queue.follow_up.Goals as goal

pub returns-in_default : goal.returns-in_default
returns-in_default g c =
    let i = c.into_parts-seat.ensures in
    let seat = c.in_default.ensures.same in
    let same = c.new.ensures
    ∙ pending_same c.args.pending _ (ap (λ s. s.number) seat ∙ i.number) (ap (λ s. s.past) seat ∙ i.past) (ap (λ s. s.moment) seat ∙ i.moment)
    (ap (λ s. s.list) seat ∙ i.list) i.ticket i.mark in (
      same,
      looked_same g.O.QueuePlace.kind g.O.Item.Marked.mark_of _ _ _ _ _ _ _ _ _ _ (Followed NotYet) (Followed NotYet) i.moment i.number i.ticket i.mark
          (ap FollowUp i.ticket) refl (c.in_default.ensures.looked (Followed NotYet)),
    )

pub returns-in-NotYet : goal.returns-in-NotYet
returns-in-NotYet g c =
    let mark = g.O.Item.Marked.mark_of in
    let i = c.into_parts-seat.ensures in
    let e = c.end.ensures in
    let is = c.in-Followed.is ∙ ap Followed c.in-NotYet.is in
    let none = ap (queue_record mark c.into_parts-seat.result.0.number (FollowUp c.into_parts-seat.result.1)) is in
    let same = c.new-in-NotYet.ensures
    ∙ pending_same c.args.pending _ (e.number ∙ i.number) (e.past ∙ i.past) (c.in-Some.ensures.still none ∙ i.moment)
    (none_came _ _ _ none c.in-Some.ensures.adds ∙ i.list) i.ticket i.mark in (
      same,
      looked_same g.O.QueuePlace.kind mark _ _ _ _ _ _ _ _ _ _ _ (Followed NotYet) i.moment i.number i.ticket i.mark (ap FollowUp i.ticket)
          is c.in-Some.ensures.looked,
    )
