-- What stays true from turn to turn of `run_calls`, src/script/run.rt.
use Rattle.std.proofs.Common.{◌≡◌, ◌+◌, ◌≤◌}
use Rattle.std.specs.Vec.{vec_capacity}
use Rattle.meet_run.specs.Texts.Reading.{UsesTurns}
use Rattle.meet_history.specs.Stepping.{place_of}
use Rattle.meet_run.proofs.Scripts.Ran.{Ran}
use Rattle.meet_run.proofs.script.run.run_calls.Given as goal

abbrev pub invariant-loop-call : goal.invariant-loop-call
invariant-loop-call g l = record {
  setup : l.stepper.setup ≡ l.setup;
  ran : Ran l.setup (g.R.Read.remaining l.fn.reader) (g.R.Read.remaining l.reader) (g.W.Write.contents l.fn.writer) (g.W.Write.contents l.writer) l.read (place_of l.stepper);
  uses : UsesTurns (g.R.Read.remaining l.fn.reader) (g.R.Read.remaining l.reader) l.fn.turns l.turns;
  few : l.read + l.turns ≤ 1 + l.fn.turns;
  room : 128 ≤ vec_capacity l.line;
}

abbrev pub decreases-loop-call : goal.decreases-loop-call
decreases-loop-call g l = l.turns
