-- Proof of `Queue::request`, src/requests.rt. Makes a request of a seat of this queue: settled at once, or parked with
-- its ticket open.
use Rattle.std.proofs.Common.{ap, ◌∙◌, ◌≤◌, subst, rules, option_to_list}
use Rattle.meet_core.specs.QueueRecords.{queue_record}
use Rattle.meet_core.specs.QueueSteps.{item_in}
use Rattle.meet_place.proofs.Later.{later_equal}
use Rattle.meet_place.specs.Seats.{Adds}
use Rattle.meet_sync.specs.Asking.{AnsweredBy}
use Rattle.meet_sync.specs.Told.{IsAnswer, IsRefusalOf}
use Rattle.meet_sync.proofs.Askings.{asked_as, asked_why, call_item}
use Rattle.meet_sync.proofs.Wholes.{room_left}
use Rattle.meet_sync.proofs.queue.Queue.request.Goals as goal

pub returns-in-Ok-clause-asked : goal.returns-in-Ok-clause-asked
returns-in-Ok-clause-asked g c =
    let k = g.O.QueuePlace.kind in
    let mark = g.O.Item.Marked.mark_of in
    let roomy = c.reserve.new.self in
    let after = c.step.new.seat in
    let answer = c.in-Ok.answer in
    let adds = subst (λ call. Adds roomy.list after.list (option_to_list (queue_record mark roomy.number call answer)))
    c.into_call.ensures c.in-Ok.ensures.adds in
    let step = subst (λ call. IsAnswer k mark g.N.Ledger.parts roomy.number call answer) c.into_call.ensures
    c.in-Ok.ensures.step in
    let told = subst (λ m. AnsweredBy after m answer c.asked_of.result) c.mark-mark.ensures c.asked_of.ensures in
    asked_as k mark g.N.Ledger.parts c.args.seat roomy after c.args.request answer c.asked_of.result
    c.reserve.ensures.number c.reserve.ensures.past c.reserve.ensures.moment c.reserve.ensures.list
    c.in-Ok.ensures.number c.in-Ok.ensures.past c.in-Ok.ensures.later adds step told

pub returns-in-Err-clause-refused : goal.returns-in-Err-clause-refused
returns-in-Err-clause-refused g c =
    let why = c.in-Err.refused.why in
    let n = c.reserve.new.self.number in
    let refused = subst (λ call. IsRefusalOf g.N.Ledger.parts n call why) c.into_call.ensures c.in-Err.ensures.why in
    let same = c.refused_with.ensures.seat ∙ c.in-Err.ensures.same in (
      (
        ap (λ s. s.number) same ∙ c.reserve.ensures.number,
        ap (λ s. s.past) same ∙ c.reserve.ensures.past,
        later_equal c.args.seat.moment c.refused_with.result.seat.moment c.args.seat.list c.refused_with.result.seat.list
            (ap (λ s. s.moment) same ∙ c.reserve.ensures.moment) (ap (λ s. s.list) same ∙ c.reserve.ensures.list),
      ),
      ap (λ s. s.list) same ∙ c.reserve.ensures.list,
      c.refused_with.ensures.item ∙ ap item_in (c.in-Err.ensures.back ∙ c.into_call.ensures) ∙ call_item c.args.request,
      rw c.refused_with.ensures.why (asked_why g.N.Ledger.parts n c.args.request why refused),
    )

pub asked_of-requires-clause-room : goal.asked_of-requires-clause-room
asked_of-requires-clause-room g c =
    let two : 2 ≤ c.reserve.new.self.room = search rules in
    room_left c.reserve.new.self.list c.step.new.seat.list _ c.reserve.new.self.room c.step.new.seat.room
    c.in-Ok.ensures.adds c.step.ensures.room two
