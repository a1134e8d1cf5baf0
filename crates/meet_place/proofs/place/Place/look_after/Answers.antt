-- Proof of `Place::look_after`, src/tending.rt. A seat looks at the book: a checkpoint where it is more than half full,
-- and how many records are folded away then.
use Rattle.meet_place.proofs.Folded.{looked, left_full}
use Rattle.meet_place.proofs.place.Place.look_after.Goals as goal

pub returns-clause-looked : goal.returns-clause-looked
returns-clause-looked g c =
    let o = g.O.Object in
    let look = c.look_after in
    looked o.gone_of c.deref_mut.result.now o.seat_count_of g.N.Ledger.parts g.N.Ledgers.cap look.ensures.place
    look.result.1 c.args.seat.now look.new.seat look.result.0 look.ensures.gone look.ensures.counted

pub returns-clause-refused : goal.returns-clause-refused
returns-clause-refused g c =
    let o = g.O.Object in
    let look = c.look_after in
    left_full o.gone_of c.deref_mut.result.now o.seat_count_of g.N.Ledger.parts g.N.Ledgers.cap look.ensures.place
    look.result.1 look.result.0 look.ensures.none look.ensures.full look.ensures.why
