-- What stays true from turn to turn of `run_requests`, src/run.rt.
use Rattle.std.proofs.Common.{◌+◌, ◌≤◌}
use Rattle.std.specs.Vec.{vec_capacity}
use Rattle.meet_run.specs.Texts.Reading.{UsesTurns}
use Rattle.pool_run.proofs.Running.{Under}
use Rattle.pool_run.proofs.run.run_requests.Given as goal

abbrev pub invariant-loop-request : goal.invariant-loop-request
invariant-loop-request g l = record {
  under : Under l.fn.settings (g.R.Read.remaining l.fn.reader) (g.R.Read.remaining l.reader) (g.W.Write.contents l.fn.writer) (g.W.Write.contents l.writer) l.read l.stepper;
  uses : UsesTurns (g.R.Read.remaining l.fn.reader) (g.R.Read.remaining l.reader) l.fn.turns l.turns;
  few : l.read + l.turns ≤ 1 + l.fn.turns;
  room : 128 ≤ vec_capacity l.line;
}

abbrev pub decreases-loop-request : goal.decreases-loop-request
decreases-loop-request g l = l.turns
