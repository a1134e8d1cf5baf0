-- Proof of `read_records`, src/trace/check.rt. Reads a whole trace as `read_trace` does, and keeps its records.
use Rattle.meet_run.proofs.Tracing.KeepingLemmas.{read-with}
use Rattle.meet_run.proofs.trace.check.read_records.Goals as goal

pub returns-clause-read : goal.returns-clause-read
returns-clause-read g c =
    read-with (g.R.Read.remaining c.args.reader.now) c.in_ok-trace.trace c.all-kept.result.wanted c.read_into.new.kept c.into_records.result.items c.all-kept.ensures.same c.into_records.ensures c.in_ok-trace.ensures.read
