-- What stays true from turn to turn of `push_from`, src/trace/based.rt.
use Rattle.std.proofs.Common.{◌≡◌, ◌+◌, ◌≤◌, List, [], length}
use Rattle.std.specs.Vec.{vec_capacity}
use Rattle.meet_tickets.specs.declared.records.Deed.{Deed}
use Rattle.meet_tickets.specs.declared.records.Record.{Record}
use Rattle.meet_tickets.specs.Bases.{Based}
use Rattle.meet_tickets.specs.Limits.{most_records}
use Rattle.meet_history.specs.Pushing.{HasSeen}
use Rattle.meet_run.specs.Tracing.Keeping.{HasKept}
use Rattle.meet_run.specs.Texts.Reading.{UsesTurns}
use Rattle.meet_run.proofs.Tracing.ReadFrom.{WasReadFrom}
use Rattle.meet_run.proofs.trace.based.push_from.Given as goal

abbrev pub invariant-loop-entry : goal.invariant-loop-entry
invariant-loop-entry g l = record {
  pushed : (past : List (Record Deed)) × WasReadFrom l.first l.fn.line.items (g.R.Read.remaining l.fn.reader) (g.R.Read.remaining l.reader) l.line.items l.number past
      × (l.number ≡ l.first + length past) × ((b : Based) → HasSeen b l.fn.checker [] → HasSeen b l.checker past) × HasKept l.fn.kept.wanted l.kept past;
  most : l.number ≤ l.first + most_records;
  kind : l.checker.place.kind ≡ l.fn.checker.place.kind;
  uses : UsesTurns (g.R.Read.remaining l.fn.reader) (g.R.Read.remaining l.reader) l.fn.turns l.turns;
  few : l.number + l.turns ≤ l.first + l.fn.turns;
  room : 128 ≤ vec_capacity l.line;
}

abbrev pub decreases-loop-entry : goal.decreases-loop-entry
decreases-loop-entry g l = l.turns
