-- Proof of `Place::tend`, src/tending.rt. Looks at the seat's own list.
use Rattle.meet_place.proofs.Folded.{looks_after, has_looked, folds_none}
use Rattle.meet_place.proofs.place.Place.tend.Goals as goal

pub returns-clause-tended : goal.returns-clause-tended
returns-clause-tended g c =
    let o = g.O.Object in
    let look = c.look_after-folded in
    looks_after o.gone_of o.seat_count_of g.N.Ledger.parts g.N.Ledgers.cap look.result.1 c.args.seat.now look.new.seat
    c.forget.new.self c.forget.ensures look.result.0 look.ensures.looked

pub returns-clause-looked : goal.returns-clause-looked
returns-clause-looked g c is =
    let o = g.O.Object in
    let look = c.look_after-folded in
    has_looked o.gone_of o.seat_count_of g.N.Ledger.parts g.N.Ledgers.cap look.result.1 c.args.seat.now look.new.seat
    c.forget.new.self c.forget.ensures look.result.0 look.ensures.looked

pub returns-clause-why : goal.returns-clause-why
returns-clause-why g c =
    let o = g.O.Object in
    let look = c.look_after-folded in
    folds_none o.gone_of o.seat_count_of g.N.Ledger.parts g.N.Ledgers.cap look.result.1 c.args.seat.now look.new.seat
    c.forget.new.self c.forget.ensures look.result.0 look.ensures.refused look.ensures.same
