-- Proof of `read_trace`, src/trace/check.rt. Reads a whole trace, of either format, by at most so many reads; it
-- refuses BadTrace with the line that can't be read, ReadFault and Memory.
use Rattle.meet_run.proofs.Tracing.KeepingLemmas.{all-read}
use Rattle.meet_run.proofs.trace.check.read_trace.Goals as goal

pub returns-clause-read : goal.returns-clause-read
returns-clause-read g c = all-read (g.R.Read.remaining c.args.reader.now) c.nothing-nothing.result.wanted c.read_into.new.kept c.read_into.result c.read_into.ensures.read
