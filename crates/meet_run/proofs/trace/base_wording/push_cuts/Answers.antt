-- Proof of `push_cuts`, src/trace/base_wording.rt. Appends the lines of its open tickets that were cut.
use Rattle.meet_history.specs.declared.pieces.Piece.TheVariants.{Cut}
use Rattle.meet_run.proofs.Tracing.PieceLines.{written-none, written-more, written-all}
use Rattle.meet_run.proofs.trace.base_wording.push_cuts.Goals as goal

pub loop-entry-init : goal.loop-entry-init
loop-entry-init c = written-none Cut c.args.out.now.items c.args.cuts.now

pub loop-entry-preserved : goal.loop-entry-preserved
loop-entry-preserved c = written-more Cut c.args.out.now.items c.loop-entry.out.items c.push_cut.new.out.items c.args.cuts.now c.loop-entry.entry-index c.loop-entry.invariant c.entry-item.result c.loop-entry-test.true c.entry-item.is c.in_ok-push_cut.ensures

pub returns : goal.returns
returns c = record { text = written-all Cut c.args.out.now.items c.loop-entry.out.items c.args.cuts.now c.loop-entry.entry-index c.loop-entry.invariant c.loop-entry-test.false }
