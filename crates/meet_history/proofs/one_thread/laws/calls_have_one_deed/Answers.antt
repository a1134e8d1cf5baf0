-- Proof of `calls_have_one_deed`, src/one_thread/laws.rt.
use Rattle.meet_history.proofs.Called.{only_deed}
use Rattle.meet_history.proofs.one_thread.laws.calls_have_one_deed.Goals as goal

pub returns : goal.returns
returns c = λ setup p seat ticket verb deed is allowed used admitted. only_deed setup p seat verb ticket deed is allowed used admitted
