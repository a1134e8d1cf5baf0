-- The law holds by induction over the history.
use Rattle.meet_tickets.proofs.Tellings.Histories.{tellings_are_one}
use Rattle.meet_tickets.proofs.laws.tellings_agree.Goals as goal

pub returns : goal.returns
returns c = tellings_are_one
