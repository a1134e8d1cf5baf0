-- What stays true from turn to turn of `write_records`, src/trace/run.rt.
use Rattle.meet_run.proofs.Tracing.TraceWriting.{IsUnderWay}
use Rattle.meet_run.proofs.trace.run.write_records.Given as goal

-- the lines of the records so far are written, or kept back
abbrev pub invariant-loop-entry : goal.invariant-loop-entry
invariant-loop-entry g l = IsUnderWay (g.W.Write.contents l.fn.writer) (g.W.Write.contents l.writer) l.fn.out.items l.out.items l.records l.entry-index
