-- Proof of `Place::look_since`, src/place.rt. Looks at the place as `look`, at a state that isn't older than a moment.
use Rattle.std.proofs.Common.{◌≡◌, refl, sym, subst}
use Rattle.meet_place.proofs.Later.{since_same}
use Rattle.meet_place.proofs.place.Place.look_since.Goals as goal

pub returns : goal.returns
returns g c =
    let o = g.O.Object in
    let book = c.deref.result.now in
    let since = since_same o.leads o.gone_of c.args.since.now c.args.since.now _ book refl c.deref.ensures c.hold_since-shared.ensures.since in
    let seats = subst (λ x. o.seat_count_of x ≡ g.N.Ledger.parts) c.probe.ensures.object c.probe.ensures.seats in
    (book, seats, since, (c.probe.result, c.look.ensures, c.probe.ensures.object))
