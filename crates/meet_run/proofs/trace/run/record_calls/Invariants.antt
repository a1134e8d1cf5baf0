-- What stays true from turn to turn of `record_calls`, src/trace/run.rt.
use Rattle.std.proofs.Common.{◌≡◌, ◌+◌, ◌≤◌, List}
use Rattle.std.specs.Vec.{vec_capacity}
use Rattle.meet_tickets.specs.declared.records.Record.{Record}
use Rattle.meet_tickets.specs.declared.records.Deed.{Deed}
use Rattle.meet_history.specs.Stepping.{place_of, HasWritten}
use Rattle.meet_run.specs.Texts.Reading.{UsesTurns}
use Rattle.meet_run.proofs.Tracing.Recorded.{Recorded}
use Rattle.meet_run.proofs.trace.run.record_calls.Given as goal

abbrev pub invariant-loop-call : goal.invariant-loop-call
invariant-loop-call g l = record {
  setup : l.stepper.setup ≡ l.setup;
  recorded : (past : List (Record Deed)) × HasWritten l.stepper past × Recorded l.setup (g.R.Read.remaining l.fn.reader) (g.R.Read.remaining l.reader) l.read (place_of l.stepper) past;
  uses : UsesTurns (g.R.Read.remaining l.fn.reader) (g.R.Read.remaining l.reader) l.fn.turns l.turns;
  few : l.read + l.turns ≤ 1 + l.fn.turns;
  room : 128 ≤ vec_capacity l.line;
}

abbrev pub decreases-loop-call : goal.decreases-loop-call
decreases-loop-call g l = l.turns
