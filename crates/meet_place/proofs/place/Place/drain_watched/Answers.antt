-- Proof of `Place::drain_watched`, src/draining.rt. The same; nobody is woken, but the watch is told of whom to wake.
use Rattle.std.proofs.Common.{ap, subst, ◌∙◌, ◌<◌, ◌+◌, ◌++◌, ◌≤◌, length, map, min, vec_capacity, inr, arith}
use Rattle.std.proofs.Math.Nat.{min-eq_left}
use Rattle.meet_tickets.specs.Refusals.{IsWhy}
use Rattle.meet_book.specs.Draining.{TakingPolls, book_drain_refusal}
use Rattle.meet_place.proofs.Later.{since_same}
use Rattle.meet_place.proofs.place.Place.drain_watched.Goals as goal

pub returns-in-Ok-clause-polls : goal.returns-in-Ok-clause-polls
returns-in-Ok-clause-polls g c =
    let o = g.O.Object in
    let d = g.O.Drains in
    let book = c.deref_mut.result.now in
    let new = c.drain.new.self.object in
    let drained = c.in-Ok.ensures.polls in
    let last = o.gone_of book.base + length book.records in
    let polls = subst (λ n. TakingPolls (λ before answer after. o.steps before n d.poll answer after) (o.record_of n d.poll) (λ x. o.refusal_of x n d.poll) d.available_of d.unspent_of o.owed_of book.object drained.0 new) c.reserve.ensures.number drained.1.0 in
    let fits = min-eq_left c.in-Some.ensures.room in (
      book.object,
      new,
      last,
      c.drain.ensures.place.0,
      c.in-Ok.ensures.count ∙ ap (λ n. min n (d.available_of book.object)) fits,
      (drained.0, (polls, drained.1.1), drained.2 ∙ ap (λ list. list ++ map (λ one. one.1) drained.0) c.reserve.ensures.list, drained.3),
    )

pub returns-clause-why : goal.returns-clause-why
returns-clause-why g c =
    let o = g.O.Object in
    let d = g.O.Drains in
    let book = c.deref_mut.result.now in
    let k = min (min c.args.max (vec_capacity c.in-Some.room.polled)) (d.available_of book.object) in
    let few : k ≤ c.args.max = grind arith in
    let why = subst (λ n. IsWhy (book_drain_refusal (o.refusal_of book.object n d.poll) (d.unspent_of book.object) (o.owed_of book.object) book k) c.in-Err.refused.why) c.reserve.ensures.number c.in-Err.ensures.why in
    inr (book, k, few, c.drain.ensures.place, since_same o.leads o.gone_of c.moment.result c.args.seat.now.moment _ book (c.moment.ensures ∙ c.reserve.ensures.moment) c.deref_mut.ensures.value c.hold_since-shared.ensures.since, subst (λ n. n < g.N.Ledger.parts) c.reserve.ensures.number c.drain.ensures.within, why)

pub returns-in-Ok-clause-later : goal.returns-in-Ok-clause-later
returns-in-Ok-clause-later g c = rw (← c.reserve.ensures.moment, ← c.reserve.ensures.list) c.drain.ensures.later

pub returns-clause-later : goal.returns-clause-later
returns-clause-later g c = rw (← c.reserve.ensures.moment, ← c.reserve.ensures.list) c.drain.ensures.later
