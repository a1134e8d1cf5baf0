-- Proof of `Queue::withdraw`, src/endings.rt. Takes an open ticket back by this ending, which is no follow-up.
use Rattle.std.proofs.Common.{refl, ap, ◌∙◌, subst, option_to_list}
use Rattle.meet_core.specs.QueueRecords.{queue_record}
use Rattle.meet_core.specs.declared.answers.TakenBack.TheVariants.{Late}
use Rattle.meet_core.specs.declared.calls.queue_calls.QueueAnswer.TheVariants.{TakenBack}
use Rattle.meet_place.specs.Seats.{Adds, FreesSeat}
use Rattle.meet_sync.proofs.Looked.{looked_same, late_has_none, none_came, pending_same, taken_back, came_late}
use Rattle.meet_sync.specs.Told.{IsEnding, ending_call}
use Rattle.meet_sync.proofs.queue.Queue.withdraw.Goals as goal

pub returns-in_default : goal.returns-in_default
returns-in_default g c =
    let k = g.O.QueuePlace.kind in
    let mark = g.O.Item.Marked.mark_of in
    let i = c.into_parts-seat.ensures in
    let seat = c.in_default.ensures.same in
    let same = c.new.ensures
    ∙ pending_same c.args.pending _ (ap (λ s. s.number) seat ∙ i.number) (ap (λ s. s.past) seat ∙ i.past) (ap (λ s. s.moment) seat ∙ i.moment)
    (ap (λ s. s.list) seat ∙ i.list) i.ticket i.mark in
    came_late k mark c.args.pending g.row.N.Denot c.args.ending c.new.result c.requires.withdrawal same
    (looked_same k mark _ _ _ _ _ _ _ _ _ _ (TakenBack Late) (TakenBack Late) i.moment i.number i.ticket i.mark (ap (ending_call c.args.ending) i.ticket)
    refl (c.in_default.ensures.looked (TakenBack Late)))

pub returns-in-Back : goal.returns-in-Back
returns-in-Back g c =
    let k = g.O.QueuePlace.kind in
    let mark = g.O.Item.Marked.mark_of in
    let i = c.into_parts-seat.ensures in
    let e = c.end.ensures in
    let p = c.args.pending in
    let same : FreesSeat p c.end.new.seat = (e.number ∙ i.number, e.past ∙ i.past, rw (← i.moment, ← i.list) e.later) in
    let is = c.in-TakenBack.is ∙ ap TakenBack c.in-Back.is in
    let n = c.into_parts-seat.result.0.number in
    let t = c.into_parts-seat.result.1 in
    let call = ending_call c.args.ending t in
    let ended = subst (λ a. IsEnding k mark n t c.into_parts-seat.result.2 call a) is c.in-Some.ensures.step in
    let adds = subst (λ a. Adds c.into_parts-seat.result.0.list c.end.new.seat.list (option_to_list (queue_record mark n call a))) is
    c.in-Some.ensures.adds in
    taken_back k mark p g.row.N.Denot c.args.ending c.end.new.seat c.in-Back.item c.requires.withdrawal same
    (rw (← i.number, ← i.ticket, ← i.mark) ended) (rw (← i.number, ← i.ticket, ← i.list) adds)

pub returns-in-Late : goal.returns-in-Late
returns-in-Late g c =
    let k = g.O.QueuePlace.kind in
    let mark = g.O.Item.Marked.mark_of in
    let i = c.into_parts-seat.ensures in
    let e = c.end.ensures in
    let is = c.in-TakenBack.is ∙ ap TakenBack c.in-Late.is in
    let none = ap (queue_record mark c.into_parts-seat.result.0.number (ending_call c.args.ending c.into_parts-seat.result.1)) is
    ∙ late_has_none mark c.args.ending c.into_parts-seat.result.0.number c.into_parts-seat.result.1 in
    let same = c.new-in-Late.ensures
    ∙ pending_same c.args.pending _ (e.number ∙ i.number) (e.past ∙ i.past) (c.in-Some.ensures.still none ∙ i.moment)
    (none_came _ _ _ none c.in-Some.ensures.adds ∙ i.list) i.ticket i.mark in
    came_late k mark c.args.pending g.row.N.Denot c.args.ending c.new-in-Late.result c.requires.withdrawal same
    (looked_same k mark _ _ _ _ _ _ _ _ _ _ _ (TakenBack Late) i.moment i.number i.ticket i.mark (ap (ending_call c.args.ending) i.ticket) is
    c.in-Some.ensures.looked)
