-- Proof of `faults_end_scripts`, src/script/laws.rt. A script with a line that is no call has its fault there.
use Rattle.meet_run.proofs.Scripts.ScriptLemmas.{faults-end-scripts}
use Rattle.meet_run.proofs.script.laws.faults_end_scripts.Goals as goal

pub returns : goal.returns
returns c = faults-end-scripts
