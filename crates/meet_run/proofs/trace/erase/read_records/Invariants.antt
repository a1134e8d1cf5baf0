-- What stays true from turn to turn of `read_records`, src/trace/erase.rt.
use Rattle.std.proofs.Common.{◌+◌, ◌≤◌}
use Rattle.std.specs.Vec.{vec_capacity}
use Rattle.meet_run.specs.Texts.Reading.{UsesTurns}
use Rattle.meet_run.proofs.Tracing.TraceReading.{WasRead}
use Rattle.meet_run.proofs.trace.erase.read_records.Given as goal

abbrev pub invariant-loop-entry : goal.invariant-loop-entry
invariant-loop-entry g l = record {
  records : WasRead (g.R.Read.remaining l.fn.reader) (g.R.Read.remaining l.reader) l.read l.records.items;
  uses : UsesTurns (g.R.Read.remaining l.fn.reader) (g.R.Read.remaining l.reader) l.fn.turns l.turns;
  few : l.read + l.turns ≤ 1 + l.fn.turns;
  room : 128 ≤ vec_capacity l.line;
}

abbrev pub decreases-loop-entry : goal.decreases-loop-entry
decreases-loop-entry g l = l.turns
