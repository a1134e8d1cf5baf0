-- Proof of `promise_is_kept`, src/laws.rt.
use Rattle.meet_laws.proofs.Promised.{keeps_promise}
use Rattle.meet_laws.proofs.laws.promise_is_kept.Goals as goal

pub returns : goal.returns
returns c = keeps_promise
