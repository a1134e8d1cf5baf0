-- The law holds by induction over the records, by seat.
use Rattle.meet_tickets.proofs.Told.Remembered.{remembered}
use Rattle.meet_tickets.proofs.laws.requests_are_remembered.Goals as goal

pub returns : goal.returns
returns c = remembered
