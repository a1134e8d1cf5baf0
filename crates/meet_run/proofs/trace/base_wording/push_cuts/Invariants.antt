-- What stays true from turn to turn of `push_cuts`, src/trace/base_wording.rt.
use Rattle.meet_history.specs.declared.pieces.Piece.TheVariants.{Cut}
use Rattle.meet_run.proofs.Tracing.PieceLines.{AreWritten}
use Rattle.meet_run.proofs.trace.base_wording.push_cuts.Given as goal

abbrev pub invariant-loop-entry : goal.invariant-loop-entry
invariant-loop-entry l = AreWritten Cut l.fn.out.items l.out.items l.cuts l.entry-index
