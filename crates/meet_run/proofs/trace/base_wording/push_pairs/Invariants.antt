-- What stays true from turn to turn of `push_pairs`, src/trace/base_wording.rt.
use Rattle.meet_history.specs.declared.pieces.Piece.TheVariants.{Met}
use Rattle.meet_run.proofs.Tracing.PieceLines.{AreWritten}
use Rattle.meet_run.proofs.trace.base_wording.push_pairs.Given as goal

abbrev pub invariant-loop-entry : goal.invariant-loop-entry
invariant-loop-entry l = AreWritten Met l.fn.out.items l.out.items l.pairs l.entry-index
