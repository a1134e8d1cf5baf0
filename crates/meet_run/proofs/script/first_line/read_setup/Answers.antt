-- Proof of `read_setup`, src/script/first_line.rt. The place of a script's first line, or none where the line is at
-- fault.
use Rattle.meet_run.proofs.Scripts.SetupLemmas.{setup-limits}
use Rattle.meet_run.proofs.script.first_line.read_setup.Goals as goal

pub returns-clause-fits : goal.returns-clause-fits
returns-clause-fits c = setup-limits c.args.line.now c.read_long_setup.result c.read_long_setup.ensures
