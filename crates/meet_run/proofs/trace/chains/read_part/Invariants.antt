-- What stays true from turn to turn of `read_part`, src/trace/chains.rt.
use Rattle.std.proofs.Common.{◌+◌, ◌<◌, ◌≤◌}
use Rattle.std.specs.Vec.{vec_capacity}
use Rattle.meet_run.specs.Texts.Reading.{UsesTurns, HasNoEnd}
use Rattle.meet_run.proofs.Tracing.ReadParts.{PartSoFar}
use Rattle.meet_run.proofs.trace.chains.read_part.Given as goal

abbrev pub invariant-loop-line : goal.invariant-loop-line
invariant-loop-line g l = record {
  part : HasNoEnd l.fn.line.items → PartSoFar l.fn.line.items (g.R.Read.remaining l.fn.reader) (g.R.Read.remaining l.reader) l.text.items l.lines;
  some : 0 < l.lines;
  few : l.lines + l.turns ≤ 1 + l.fn.turns;
  uses : UsesTurns (g.R.Read.remaining l.fn.reader) (g.R.Read.remaining l.reader) l.fn.turns l.turns;
  room : 128 ≤ vec_capacity l.line;
}

abbrev pub decreases-loop-line : goal.decreases-loop-line
decreases-loop-line g l = l.turns
