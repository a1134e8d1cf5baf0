-- Proof of `Shared::drain`, src/draining.rt. `BlockingQueue.drainTo` of a seat under this hold: up to `max` items, and
-- no more than both empty lists and the seat's list have room for; one recorded poll after another.
use Rattle.std.proofs.Common.{◌≡◌, ap, subst, ◌∙◌, ◌+◌, ◌++◌, length, map, sym, arith}
use Rattle.std.proofs.lemmas.List.{length-append, length-map}
use Rattle.meet_book.specs.Draining.{TakingPolls, AreNumbered}
use Rattle.meet_place.proofs.Kept.{polls_keep}
use Rattle.meet_place.proofs.Later.{later_equal, later_numbered}
use Rattle.meet_place.proofs.shared.Shared.drain.Goals as goal

pub returns-clause-polls : goal.returns-clause-polls
returns-clause-polls g c =
    let o = g.O.Object in
    let d = g.O.Drains in
    let seat : c.seat.inside.number ≡ c.args.seat.now.number = ap (λ s. s.number) c.seat.view_is in
    let object : c.self.inside.book.object ≡ c.args.self.now.object = ap (λ s. s.object) c.self.view_is in
    let got = c.in-Ok.got.items in
    let new = c.drain_into.new.self.object in
    let polls = subst (λ n. TakingPolls (λ old answer next. o.steps old n d.poll answer next) (o.record_of n d.poll) (λ x. o.refusal_of x n d.poll) d.available_of d.unspent_of o.owed_of c.self.inside.book.object got new) seat c.in-Ok.ensures.polls in
    let from_here = subst (λ x. TakingPolls (λ old answer next. o.steps old c.args.seat.now.number d.poll answer next) (o.record_of c.args.seat.now.number d.poll) (λ y. o.refusal_of y c.args.seat.now.number d.poll) d.available_of d.unspent_of o.owed_of x got new) object polls in
    let numbered = subst (λ b. AreNumbered (o.gone_of b.base + length b.records) got) c.self.view_is c.in-Ok.ensures.places in
    (got, (from_here, numbered), c.hand_out.ensures.receipts ∙ ap (λ s. s.list ++ map (λ one. one.1) got) c.seat.view_is, c.hand_out.ensures.answers)

pub invariant_of-self-2 : goal.invariant_of-self-2
invariant_of-self-2 g c =
    let o = g.O.Object in
    let d = g.O.Drains in
    let n = c.seat.inside.number in
    let was = c.self.invariant in
    let stay = polls_keep (λ old answer next. o.steps old n d.poll answer next) (o.record_of n d.poll) (λ x. o.refusal_of x n d.poll) d.available_of d.unspent_of o.owed_of o.seat_count_of (λ old answer next step. g.met.O.Object.same_seats old n d.poll answer next step) c.self.inside.book.object c.in-Ok.got.items c.drain_into.new.self.object c.in-Ok.ensures.polls in
    let base = c.drain_into.ensures.base in
    let gone = ap o.gone_of base in
    let more = ap length c.in-Ok.ensures.records ∙ length-append c.self.inside.book.records (map (λ one. one.1.entry) c.in-Ok.got.items) in
    let same = length-map c.in-Ok.got.items (λ one. one.1.entry) in
    let total = ap (λ t. t.total) c.add.ensures.totals in
    let folds = ap (λ t. t.folds) c.add.ensures.totals in (
      omega (arith, gone, more, same, total, was.0),
      omega (arith, gone, folds, was.1),
      λ none. base ∙ was.2 (sym gone ∙ none),
      was.3,
      was.4,
      was.5,
      (stay ∙ was.6.0, c.drain_into.ensures.cap ∙ was.6.1),
    )

-- nobody has seen more than there was, and the polls are numbered on from there
pub returns-clause-later : goal.returns-clause-later
returns-clause-later g c =
    let o = g.O.Object in
    let last = o.gone_of c.self.inside.book.base + length c.self.inside.book.records in
    let got = c.in-Ok.got.items in
    let was = c.self.invariant.0 in
    let before = c.add.ensures.before in
    let after = c.add.ensures.moment in
    let many = c.len.ensures in
    let moment = ap (λ s. s.moment) c.seat.view_is in
    later_numbered c.args.seat.now.moment last c.add.new.moment c.args.seat.now.list c.hand_out.new.list.items got
    (c.hand_out.ensures.receipts ∙ ap (λ s. s.list ++ map (λ one. one.1) got) c.seat.view_is) c.in-Ok.ensures.places
    (omega (arith, was, before, moment)) (omega (arith, was, after, many))

pub returns-in-Err-clause-later : goal.returns-in-Err-clause-later
returns-in-Err-clause-later g c =
    later_equal c.args.seat.now.moment c.seat.inside.moment c.args.seat.now.list c.seat.inside.list.items
    (ap (λ s. s.moment) c.seat.view_is) (ap (λ s. s.list) c.seat.view_is)
