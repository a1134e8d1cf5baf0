-- Proof of `push_rows`, src/rows.rt. Appends rows, from no column on.
use Rattle.std.proofs.Common.{[], ◌++◌}
use Rattle.meet_draw.specs.Rows.{rows_text}
use Rattle.meet_draw.proofs.Rowing.{row-more, rows-all}
use Rattle.meet_draw.proofs.rows.push_rows.Goals as goal

pub loop-shown-preserved : goal.loop-shown-preserved
loop-shown-preserved c =
    row-more c.args.layout.now c.args.bad c.args.rows.now (c.args.out.now.items ++ rows_text c.args.layout.now c.args.bad [] c.args.rows.now) c.loop-shown.shown-index c.loop-shown.columns.items c.push_row.new.columns.items c.shown-item.result c.loop-shown.out.items c.push_row.new.out.items c.loop-shown.invariant c.loop-shown-test.true c.shown-item.is c.in_ok-push_row.ensures.text c.in_ok-push_row.ensures.columns

pub returns : goal.returns
returns c = record { text = rows-all c.args.layout.now c.args.bad c.args.rows.now (c.args.out.now.items ++ rows_text c.args.layout.now c.args.bad [] c.args.rows.now) c.loop-shown.shown-index c.loop-shown.columns.items c.loop-shown.out.items c.loop-shown.invariant c.loop-shown-test.false }
