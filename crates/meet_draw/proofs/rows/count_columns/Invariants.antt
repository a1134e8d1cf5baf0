-- What stays true from turn to turn of `count_columns`, src/rows.rt.
use Rattle.std.proofs.Common.{[]}
use Rattle.meet_draw.specs.Rows.{columns_behind}
use Rattle.meet_draw.proofs.Rowing.{AreLeading}
use Rattle.meet_draw.proofs.rows.count_columns.Given as goal

abbrev pub invariant-loop-shown : goal.invariant-loop-shown
invariant-loop-shown l = AreLeading l.most l.rows (columns_behind l.most [] l.rows) l.shown-index l.columns.items
