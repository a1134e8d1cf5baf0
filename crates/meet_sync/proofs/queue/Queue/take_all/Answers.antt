-- Proof of `Queue::take_all`, src/draining.rt. Takes the items, one poll after another under one hold.
use Rattle.std.proofs.Common.{ap, sym, ◌∙◌, min, refl}
use Rattle.meet_core.specs.declared.calls.queue_calls.QueueCall.TheVariants.{Poll}
use Rattle.meet_sync.proofs.Takings.{place_takes, all_bring, all_drained, least_of, drain_why}
use Rattle.meet_place.specs.Holds.{IsSince}
use Rattle.meet_sync.proofs.queue.Queue.take_all.Goals as goal

pub items_of-requires-clause-items : goal.items_of-requires-clause-items
items_of-requires-clause-items g c =
    let laws = g.met.O.QueuePlace in
    let mark = g.O.Item.Marked.mark_of in
    let i = c.args.seat.now.number in
    let poll = g.O.Drains.poll in
    all_bring mark i (λ old a new. g.O.Object.steps old i poll a new) (g.O.Object.record_of i poll)
    (λ o. g.O.Object.refusal_of o i poll) g.O.Drains.available_of g.O.Drains.unspent_of g.O.Object.owed_of
    (place_takes g.O.QueuePlace.kind mark g.O.QueuePlace.queue_of i g.O.Object.steps g.O.Object.record_of
    g.O.Drains.available_of poll laws.is_step laws.is_record g.met.O.QueueDrains.is_available g.met.O.QueueDrains.is_poll)
    g.O.Object.seat_count_of g.N.Ledger.parts c.room_for-there.result c.args.seat.now.list c.locked_drain.new.seat.list
    c.in-Ok-locked_drain.answers.items c.in-Ok-locked_drain.ensures.polls

pub returns-in-Ok-locked_drain-clause-drained : goal.returns-in-Ok-locked_drain-clause-drained
returns-in-Ok-locked_drain-clause-drained g c =
    let laws = g.met.O.QueuePlace in
    let mark = g.O.Item.Marked.mark_of in
    let i = c.args.seat.now.number in
    let poll = g.O.Drains.poll in
    all_drained mark i (λ old a new. g.O.Object.steps old i poll a new) (g.O.Object.record_of i poll)
    (λ o. g.O.Object.refusal_of o i poll) g.O.Drains.available_of g.O.Drains.unspent_of g.O.Object.owed_of
    (place_takes g.O.QueuePlace.kind mark g.O.QueuePlace.queue_of i g.O.Object.steps g.O.Object.record_of
    g.O.Drains.available_of poll laws.is_step laws.is_record g.met.O.QueueDrains.is_available g.met.O.QueueDrains.is_poll)
    g.O.Object.seat_count_of g.N.Ledger.parts c.room_for-there.result c.args.seat.now c.locked_drain.new.seat
    c.in-Ok-locked_drain.answers.items c.items_of.result.items refl c.in-Ok-locked_drain.ensures.polls
    c.items_of.ensures.items

pub returns-in-Ok-locked_drain-clause-count : goal.returns-in-Ok-locked_drain-clause-count
returns-in-Ok-locked_drain-clause-count g c =
    let laws = g.met.O.QueuePlace in
    let mark = g.O.Item.Marked.mark_of in
    let i = c.args.seat.now.number in
    let poll = g.O.Drains.poll in
    let least = least_of mark i (λ old a new. g.O.Object.steps old i poll a new) (g.O.Object.record_of i poll)
    (λ o. g.O.Object.refusal_of o i poll) g.O.Drains.available_of g.O.Drains.unspent_of g.O.Object.owed_of
    (place_takes g.O.QueuePlace.kind mark g.O.QueuePlace.queue_of i g.O.Object.steps g.O.Object.record_of
    g.O.Drains.available_of poll laws.is_step laws.is_record g.met.O.QueueDrains.is_available g.met.O.QueueDrains.is_poll)
    g.O.Object.seat_count_of g.N.Ledger.parts c.args.max c.room_for-there.result
    c.args.seat.now.list c.locked_drain.new.seat.list c.in-Ok-locked_drain.answers.items c.items_of.result.items
    c.room_for-there.ensures c.in-Ok-locked_drain.ensures.polls c.items_of.ensures.items in (
      g.O.QueuePlace.queue_of least.0,
      g.O.QueuePlace.queue_of least.1,
      sym (laws.is_count least.0) ∙ least.2,
      sym (laws.is_count least.1) ∙ least.3,
      least.4 ∙ (λ j. min (min (g.met.O.QueueDrains.is_available least.0 j) c.args.max) (g.met.O.QueueDrains.is_available least.1 j)),
    )

pub returns-in-Err-clause-why : goal.returns-in-Err-clause-why
returns-in-Err-clause-why g c =
    let laws = g.met.O.QueuePlace in
    let i = c.args.seat.now.number in
    drain_why g.O.QueuePlace.queue_of g.O.Object.seat_count_of g.O.Drains.unspent_of g.O.Object.owed_of
    (λ o. g.O.Object.refusal_of o i g.O.Drains.poll) (IsSince g.O.Object.leads g.O.Object.gone_of c.args.seat.now.moment) g.N.Ledger.parts g.N.Ledgers.cap i c.room_for-there.result c.in-Err.why
    laws.is_count (λ o. ap (g.O.Object.refusal_of o i) g.met.O.QueueDrains.is_poll ∙ laws.is_refusal o i Poll) c.in-Err.ensures.why
