-- Proof of `push_flags`, src/trace/base_wording.rt. Appends the lines of its flagged seats.
use Rattle.meet_history.specs.declared.pieces.Piece.TheVariants.{Flagged}
use Rattle.meet_run.proofs.Tracing.PieceLines.{written-none, written-more, written-all}
use Rattle.meet_run.proofs.trace.base_wording.push_flags.Goals as goal

pub loop-entry-init : goal.loop-entry-init
loop-entry-init c = written-none Flagged c.args.out.now.items c.args.flags.now

pub loop-entry-preserved : goal.loop-entry-preserved
loop-entry-preserved c = written-more Flagged c.args.out.now.items c.loop-entry.out.items c.push_flag.new.out.items c.args.flags.now c.loop-entry.entry-index c.loop-entry.invariant c.entry-item.result c.loop-entry-test.true c.entry-item.is c.in_ok-push_flag.ensures

pub returns : goal.returns
returns c = record { text = written-all Flagged c.args.out.now.items c.loop-entry.out.items c.args.flags.now c.loop-entry.entry-index c.loop-entry.invariant c.loop-entry-test.false }
