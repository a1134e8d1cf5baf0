-- What stays true from turn to turn of `make_requests`, src/trace.rt.
use Rattle.std.proofs.Common.{◌+◌, ◌≤◌}
use Rattle.std.specs.Vec.{vec_capacity}
use Rattle.meet_run.specs.Texts.Reading.{UsesTurns}
use Rattle.pool_run.proofs.Tracing.{Making}
use Rattle.pool_run.proofs.trace.make_requests.Given as goal

abbrev pub invariant-loop-request : goal.invariant-loop-request
invariant-loop-request g l = record {
  making : Making l.fn.settings (g.R.Read.remaining l.fn.reader) (g.R.Read.remaining l.reader) l.read l.stepper;
  uses : UsesTurns (g.R.Read.remaining l.fn.reader) (g.R.Read.remaining l.reader) l.fn.turns l.turns;
  few : l.read + l.turns ≤ 1 + l.fn.turns;
  room : 128 ≤ vec_capacity l.line;
}

abbrev pub decreases-loop-request : goal.decreases-loop-request
decreases-loop-request g l = l.turns
