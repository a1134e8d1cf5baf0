-- Proof of `legal_begins_legal`, src/laws.rt. What a legal history begins with is legal.
use Rattle.meet_laws.proofs.Promised.{begins_legal}
use Rattle.meet_laws.proofs.laws.legal_begins_legal.Goals as goal

pub returns : goal.returns
returns c = begins_legal
