-- The entries of a base are requests before the first record.
use Rattle.meet_tickets.proofs.Told.StandingsOn.{stands_on}
use Rattle.meet_tickets.proofs.laws.bases_stand.Goals as goal

pub returns : goal.returns
returns c = stands_on
