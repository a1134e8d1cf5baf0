-- Proof of `partners_are_mutual`, src/laws.rt. Of two tickets that met each is with the other, one gave and the other
-- took, and each mark that their records tell is the giver's.
use Rattle.meet_laws.proofs.Couples.{are_mutual}
use Rattle.meet_laws.proofs.laws.partners_are_mutual.Goals as goal

pub returns : goal.returns
returns c = are_mutual
