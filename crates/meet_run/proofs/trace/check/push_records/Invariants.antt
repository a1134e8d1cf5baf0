-- What stays true from turn to turn of `push_records`, src/trace/check.rt.
use Rattle.std.proofs.Common.{◌≡◌, ◌+◌, ◌≤◌, List, length}
use Rattle.std.specs.Vec.{vec_capacity}
use Rattle.meet_tickets.specs.declared.records.Deed.{Deed}
use Rattle.meet_tickets.specs.declared.records.Record.{Record}
use Rattle.meet_tickets.specs.Bases.{no_base}
use Rattle.meet_history.specs.Pushing.{HasSeen}
use Rattle.meet_run.specs.Tracing.Keeping.{HasKept}
use Rattle.meet_run.specs.Texts.Reading.{UsesTurns}
use Rattle.meet_run.proofs.Tracing.TraceReading.{WasRead}
use Rattle.meet_run.proofs.trace.check.push_records.Given as goal

abbrev pub invariant-loop-entry : goal.invariant-loop-entry
invariant-loop-entry g l = record {
  pushed : (past : List (Record Deed)) × WasRead (g.R.Read.remaining l.fn.reader) (g.R.Read.remaining l.reader) l.read past × (l.read ≡ length past + 1) × HasSeen no_base l.checker past × HasKept l.fn.kept.wanted l.kept past;
  kind : l.checker.place.kind ≡ l.fn.checker.place.kind;
  uses : UsesTurns (g.R.Read.remaining l.fn.reader) (g.R.Read.remaining l.reader) l.fn.turns l.turns;
  few : l.read + l.turns ≤ 1 + l.fn.turns;
  room : 128 ≤ vec_capacity l.line;
}

abbrev pub decreases-loop-entry : goal.decreases-loop-entry
decreases-loop-entry g l = l.turns
