-- The law holds by induction over the records, by seat.
use Rattle.meet_tickets.proofs.Told.Placed.{tells_place}
use Rattle.meet_tickets.proofs.laws.fates_are_placed.Goals as goal

pub returns : goal.returns
returns c = tells_place
