-- Proof of `push_cells`, src/cells.rt. Appends so many columns of a row.
use Rattle.std.proofs.Common.{ap, ◌∙◌, ◌++◌, nat_le, nat_lt, ◌&&◌}
use Rattle.meet_draw.specs.Cells.{cell, cell_at}
use Rattle.meet_draw.proofs.Repeats.{ranged-more}
use Rattle.meet_draw.proofs.cells.push_cells.Goals as goal

pub loop-at-preserved : goal.loop-at-preserved
loop-at-preserved c =
    let linked = nat_le c.args.span.0 c.loop-at.at && nat_lt c.loop-at.at c.args.span.1 in
    ranged-more (cell_at c.args.style c.args.seat c.args.span c.args.columns.now) c.args.out.now.items c.loop-at.out.items c.push_cell.new.out.items c.loop-at.at c.loop-at.invariant
    (c.in_ok-push_cell.ensures ∙ (ap (λ l. c.loop-at.out.items ++ cell c.args.style c.args.seat l c.column_at.result) c.is_within.ensures ∙ ap (λ o. c.loop-at.out.items ++ cell c.args.style c.args.seat linked o) c.column_at.ensures))
