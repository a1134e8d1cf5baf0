-- What stays true from turn to turn of `lay_pieces`, src/trace/based.rt.
use Rattle.std.proofs.Common.{◌≡◌, ◌+◌, ◌≤◌}
use Rattle.std.specs.Vec.{vec_capacity}
use Rattle.meet_run.specs.Texts.Reading.{UsesTurns}
use Rattle.meet_run.proofs.Tracing.Laid.{WasLaid}
use Rattle.meet_run.proofs.trace.based.lay_pieces.Given as goal

abbrev pub invariant-loop-line : goal.invariant-loop-line
invariant-loop-line g l = record {
  laid : WasLaid l.fn.ground.kind (g.R.Read.remaining l.fn.reader) (g.R.Read.remaining l.reader) l.fn.ground.base l.ground.base l.read;
  kind : l.ground.kind ≡ l.fn.ground.kind;
  gone : l.ground.base.gone ≡ l.fn.ground.base.gone;
  uses : UsesTurns (g.R.Read.remaining l.fn.reader) (g.R.Read.remaining l.reader) l.fn.turns l.turns;
  few : l.read + l.turns ≤ 2 + l.fn.turns;
  room : 128 ≤ vec_capacity l.line;
}

abbrev pub decreases-loop-line : goal.decreases-loop-line
decreases-loop-line g l = l.turns
