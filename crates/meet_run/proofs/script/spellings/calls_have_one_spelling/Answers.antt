-- Proof of `calls_have_one_spelling`, src/script/spellings.rt. A line reads as a call exactly where it is that call's
-- one spelling, the call is in its limits, and the place serves it.
use Rattle.meet_run.proofs.Scripts.CallLemmas.{calls-have-one-spelling}
use Rattle.meet_run.proofs.script.spellings.calls_have_one_spelling.Goals as goal

pub returns : goal.returns
returns c = calls-have-one-spelling
