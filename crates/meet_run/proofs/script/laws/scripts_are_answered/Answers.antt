-- Proof of `scripts_are_answered`, src/script/laws.rt. A script whose first line is a place, and whose other lines are
-- calls, has no fault.
use Rattle.meet_run.proofs.Scripts.ScriptLemmas.{scripts-are-answered}
use Rattle.meet_run.proofs.script.laws.scripts_are_answered.Goals as goal

pub returns : goal.returns
returns c = scripts-are-answered
