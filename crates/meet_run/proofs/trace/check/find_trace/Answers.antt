-- Proof of `find_trace`, src/trace/check.rt. Reads a whole trace, and says what is found of it, and the line that says
-- so; it refuses as `read_trace`.
use Rattle.meet_run.proofs.Tracing.TraceReading.{found-read}
use Rattle.meet_run.proofs.trace.check.find_trace.Goals as goal

pub returns-in-Ok-clause-found : goal.returns-in-Ok-clause-found
returns-in-Ok-clause-found g c =
    found-read (g.R.Read.remaining c.args.reader.now) c.in_ok-trace.trace c.in-Ok.found.0 c.in-Ok.found.1.items c.in_ok-trace.ensures.read c.in-Ok.ensures.verdict
