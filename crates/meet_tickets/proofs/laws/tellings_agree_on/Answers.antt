-- The two tellings begin alike at a base.
use Rattle.meet_tickets.proofs.OnBases.Based.{tellings_agree_on}
use Rattle.meet_tickets.proofs.laws.tellings_agree_on.Goals as goal

pub returns : goal.returns
returns c = tellings_agree_on
