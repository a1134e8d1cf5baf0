-- Proof of `comers_are_legal`, src/coming/laws.rt. What may come next behind a well-formed base is what makes a legal history
-- there.
use Rattle.std.proofs.Common.{[]}
use Rattle.meet_explain.proofs.coming.laws.comers_are_legal.Goals as goal

pub returns : goal.returns
returns c = λ k base r sound. let law = (c.tellings_agree_on.ensures k base [] sound).next tt r in (λ may. (law.1 may, tt), λ legal. law.0 legal.0)
