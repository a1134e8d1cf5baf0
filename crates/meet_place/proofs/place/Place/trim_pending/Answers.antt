-- Proof of `Place::trim_pending`, src/place.rt. The same with a seat whose ticket is open, and stays open.
use Rattle.std.proofs.Common.{ℕ, ◌<◌, not, refl, ap, arith, length}
use Rattle.std.proofs.lemmas.List.Filters.{length-filter_both}
use Rattle.meet_book.specs.Listed.{is_since}
use Rattle.meet_place.specs.Seats.{SeatView, Trims}
use Rattle.meet_place.proofs.place.Place.trim_pending.Goals as goal

-- a trim loses no room
room_stays : {D : Type 0} (gone : ℕ) (old new : SeatView D) → Trims gone old new → 0 < old.room → 0 < new.room
room_stays gone old new trims some =
    let parts = length-filter_both (is_since gone) (λ receipt. not (is_since gone receipt)) (λ receipt. refl) old.list in
    let fewer = ap length trims.list in
    let together = trims.room in
    omega (arith, parts, fewer, together, some)

pub new-requires : goal.new-requires
new-requires g c = record { room = room_stays _ _ _ c.trim.ensures.1 c.into_parts-seat.ensures.room }
