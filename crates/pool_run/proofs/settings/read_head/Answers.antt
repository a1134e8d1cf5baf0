-- Proof of `read_head`, src/settings.rt. What the pool of a trace's first line is made with, or none where the line is
-- at fault: also where such a pool can't be made.
use Rattle.pool_run.proofs.HeadLemmas.{head-limits}
use Rattle.pool_run.proofs.settings.read_head.Goals as goal

pub returns-clause-fits : goal.returns-clause-fits
returns-clause-fits c = head-limits c.args.line.now c.read_long_head.result c.read_long_head.ensures
