-- Proof of `erased_is_legal`, src/laws.rt.
use Rattle.meet_laws.proofs.Erased.{is_erased}
use Rattle.meet_laws.proofs.laws.erased_is_legal.Goals as goal

pub returns : goal.returns
returns c = is_erased
