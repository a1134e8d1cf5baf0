-- Proof of `read_head`, src/trace/grammar.rt. The kind of place of a trace's first line, or none where the line is at
-- fault.
use Rattle.meet_run.proofs.Tracing.HeadLemmas.{head-limits}
use Rattle.meet_run.proofs.trace.grammar.read_head.Goals as goal

pub returns-clause-fits : goal.returns-clause-fits
returns-clause-fits c = head-limits c.args.line.now c.read_long_head.result c.read_long_head.ensures
