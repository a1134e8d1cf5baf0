-- What stays true from turn to turn of `change_columns`, src/columns.rt.
use Rattle.meet_draw.specs.Columns.{column_after}
use Rattle.meet_draw.proofs.Changes.{AreChanged}
use Rattle.meet_draw.proofs.columns.change_columns.Given as goal

abbrev pub invariant-loop-column : goal.invariant-loop-column
invariant-loop-column l = AreChanged (column_after l.seat l.change) l.initial.column-items l.column-index l.column-items
