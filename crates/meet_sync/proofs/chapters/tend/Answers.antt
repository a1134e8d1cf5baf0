-- Proof of `tend`, src/chapters.rt. A seat tends a place.
use Rattle.std.proofs.Common.{ℕ, ◌+◌, Ok, Err}
use Rattle.std.specs.Prelude.{Result, IfOk}
use Rattle.meet_book.specs.Booked.{Booked}
use Rattle.meet_place.specs.Holds.{IsBookOf}
use Rattle.meet_place.specs.Seats.{SeatView}
use Rattle.meet_place.specs.Tending.{LooksAfter, Tends, to_fold}
use Rattle.meet_place.proofs.Folded.{tends, trims_still, refused_still}
use Rattle.meet_sync.proofs.Reasons.{cut_why}
use Rattle.meet_sync.proofs.chapters.tend.Goals as goal

pub returns-clause-tended : goal.returns-clause-tended
returns-clause-tended g c =
    tends g.O.Object.gone_of g.O.Object.seat_count_of g.N.Ledger.parts g.N.Ledgers.cap c.args.seat.now c.tend.new.seat c.tend.result
    c.tend.ensures.tended

-- who looked after some book tended its place
tends_then : {O B D A E : Type 0} (gone_of : B → ℕ) (seat_count_of : O → ℕ) (parts cap : ℕ) (old new : SeatView D) (r : Result A E)
    → IfOk r (λ _. (b : Booked O B D) × IsBookOf seat_count_of parts cap b × LooksAfter gone_of b old new)
    → IfOk r (λ _. Tends old new)
tends_then gone_of seat_count_of parts cap old new (Ok done) (b, place, (between, counted, trims)) =
    (to_fold b, gone_of b.base + to_fold b, between, counted, trims)
tends_then gone_of seat_count_of parts cap old new (Err why) is = is

pub returns-clause-looked : goal.returns-clause-looked
returns-clause-looked g c is =
    tends_then g.O.Object.gone_of g.O.Object.seat_count_of g.N.Ledger.parts g.N.Ledgers.cap c.args.seat.now c.tend.new.seat c.tend.result
    (c.tend.ensures.looked is)

pub returns-clause-trimmed : goal.returns-clause-trimmed
returns-clause-trimmed g c =
    trims_still g.O.Object.gone_of g.O.Object.seat_count_of g.N.Ledger.parts g.N.Ledgers.cap c.args.seat.now c.tend.new.seat c.tend.result
    c.tend.ensures.why

pub returns-clause-why : goal.returns-clause-why
returns-clause-why g c =
    cut_why _ _ g.O.Object.gone_of c.tend.result
    (refused_still g.O.Object.gone_of g.O.Object.seat_count_of g.N.Ledger.parts g.N.Ledgers.cap c.args.seat.now c.tend.new.seat
    c.tend.result c.tend.ensures.why)
