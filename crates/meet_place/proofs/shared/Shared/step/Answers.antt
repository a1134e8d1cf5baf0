-- Proof of `Shared::step`, src/shared.rt. Makes a call of a seat, whose list has room for its receipt.
use Rattle.std.proofs.Common.{sym, ap, ◌∙◌}
use Rattle.meet_book.specs.Booking.{record_of_receipt}
use Rattle.meet_place.proofs.Later.{later_equal}
use Rattle.meet_place.proofs.Stepped.{adds_none}
use Rattle.meet_place.proofs.shared.Shared.step.Goals as goal

pub returns-in-None-clause-adds : goal.returns-in-None-clause-adds
returns-in-None-clause-adds g c =
    adds_none _ _ _ (ap (λ s. s.list) c.seat.view_is)
    (ap record_of_receipt (sym c.in-None.is) ∙ c.in-Ok.ensures.«record»
    ∙ ap (λ n. g.O.Object.record_of n c.args.call c.in-Ok.stepped.0) (ap (λ s. s.number) c.seat.view_is))

pub returns-in-None-clause-later : goal.returns-in-None-clause-later
returns-in-None-clause-later g c =
    later_equal c.args.seat.now.moment c.seat.inside.moment c.args.seat.now.list c.seat.inside.list.items
    (ap (λ s. s.moment) c.seat.view_is) (ap (λ s. s.list) c.seat.view_is)

pub returns-in-Err-clause-later : goal.returns-in-Err-clause-later
returns-in-Err-clause-later g c =
    later_equal c.args.seat.now.moment c.seat.inside.moment c.args.seat.now.list c.seat.inside.list.items
    (ap (λ s. s.moment) c.seat.view_is) (ap (λ s. s.list) c.seat.view_is)
