-- What a base stands for is what the records leave.
use Rattle.meet_tickets.proofs.OnBases.Folded.{folds}
use Rattle.meet_tickets.proofs.laws.bases_fold.Goals as goal

pub returns : goal.returns
returns c = folds
