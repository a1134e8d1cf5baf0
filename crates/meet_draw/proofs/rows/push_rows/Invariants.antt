-- What stays true from turn to turn of `push_rows`, src/rows.rt.
use Rattle.std.proofs.Common.{[], ◌++◌}
use Rattle.meet_draw.specs.Rows.{rows_text}
use Rattle.meet_draw.proofs.Rowing.{AreLeft}
use Rattle.meet_draw.proofs.rows.push_rows.Given as goal

abbrev pub invariant-loop-shown : goal.invariant-loop-shown
invariant-loop-shown l = AreLeft l.layout l.bad l.rows (l.fn.out.items ++ rows_text l.layout l.bad [] l.rows) l.shown-index l.columns.items l.out.items
