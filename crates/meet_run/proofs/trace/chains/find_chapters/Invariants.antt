-- What stays true from turn to turn of `find_chapters`, src/trace/chains.rt.
use Rattle.std.proofs.Common.{◌≡◌, ◌+◌, ◌≤◌, false}
use Rattle.std.specs.Vec.{vec_capacity}
use Rattle.meet_run.specs.Texts.Reading.{UsesTurns, EndsInTurns, HasNoEnd}
use Rattle.meet_run.proofs.Tracing.ReadParts.{ChainSoFar}
use Rattle.meet_run.proofs.trace.chains.find_chapters.Given as goal

abbrev pub invariant-loop-more : goal.invariant-loop-more
invariant-loop-more g l = record {
  so_far : HasNoEnd l.fn.line.items → ChainSoFar l.fn.line.items (g.R.Read.remaining l.fn.reader) (g.R.Read.remaining l.reader) l.before l.more l.line.items l.chain;
  chapters : l.chain.chapters ≤ l.before;
  few : l.before + l.turns ≤ l.fn.turns;
  uses : UsesTurns (g.R.Read.remaining l.fn.reader) (g.R.Read.remaining l.reader) l.fn.turns l.turns;
  room : 128 ≤ vec_capacity l.line;
  ends : l.more ≡ false → EndsInTurns (g.R.Read.remaining l.fn.reader) l.fn.turns;
}

abbrev pub decreases-loop-more : goal.decreases-loop-more
decreases-loop-more g l = l.turns
