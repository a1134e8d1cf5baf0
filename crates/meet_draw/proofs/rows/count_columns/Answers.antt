-- Proof of `count_columns`, src/rows.rt. How many columns rows need, where there may be so many.
use Rattle.std.proofs.Common.{[], length, ap, ◌∙◌}
use Rattle.meet_draw.specs.Rows.{columns_behind}
use Rattle.meet_draw.proofs.Rowing.{columns-more, columns-all}
use Rattle.meet_draw.proofs.rows.count_columns.Goals as goal

pub loop-shown-preserved : goal.loop-shown-preserved
loop-shown-preserved c =
    columns-more c.args.most c.args.rows.now (columns_behind c.args.most [] c.args.rows.now) c.loop-shown.shown-index c.loop-shown.columns.items c.take_row.new.columns.items c.shown-item.result c.loop-shown.invariant c.loop-shown-test.true c.shown-item.is c.in_ok-take_row.ensures.columns

pub returns : goal.returns
returns c =
    let all = columns-all c.args.most c.args.rows.now (columns_behind c.args.most [] c.args.rows.now) c.loop-shown.shown-index c.loop-shown.columns.items c.loop-shown.invariant c.loop-shown-test.false in
    record { count = ap length (c.as_slice.ensures.value ∙ all) }
