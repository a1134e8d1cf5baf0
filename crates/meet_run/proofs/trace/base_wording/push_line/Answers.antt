-- Proof of `push_line`, src/trace/base_wording.rt. Appends the lines of a base's line.
use Rattle.meet_history.specs.declared.pieces.Piece.TheVariants.{Stands}
use Rattle.meet_run.proofs.Tracing.PieceLines.{written-none, written-more, written-all}
use Rattle.meet_run.proofs.trace.base_wording.push_line.Goals as goal

pub loop-entry-init : goal.loop-entry-init
loop-entry-init c = written-none Stands c.args.out.now.items c.args.entries.now

pub loop-entry-preserved : goal.loop-entry-preserved
loop-entry-preserved c = written-more Stands c.args.out.now.items c.loop-entry.out.items c.push_entry.new.out.items c.args.entries.now c.loop-entry.entry-index c.loop-entry.invariant c.entry-item.result c.loop-entry-test.true c.entry-item.is c.in_ok-push_entry.ensures

pub returns : goal.returns
returns c = record { text = written-all Stands c.args.out.now.items c.loop-entry.out.items c.args.entries.now c.loop-entry.entry-index c.loop-entry.invariant c.loop-entry-test.false }
