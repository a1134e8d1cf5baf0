-- What stays true from turn to turn of `push_cells`, src/cells.rt.
use Rattle.std.proofs.Common.{◌≡◌, ◌++◌}
use Rattle.std.specs.List.{flat_map, range_with_len}
use Rattle.meet_draw.specs.Cells.{cell_at}
use Rattle.meet_draw.proofs.cells.push_cells.Given as goal

abbrev pub invariant-loop-at : goal.invariant-loop-at
invariant-loop-at l = l.out.items ≡ l.fn.out.items ++ flat_map (cell_at l.style l.seat l.span l.columns) (range_with_len 0 l.at)
