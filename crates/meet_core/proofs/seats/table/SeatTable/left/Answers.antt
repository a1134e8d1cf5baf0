-- Proof of `SeatTable::left`, src/seats/table.rt. How many items the seats hold.
use Rattle.std.proofs.Common.{◌∙◌, sym, ap}
use Rattle.std.specs.Prelude.{count_by, is_some}
use Rattle.meet_core.specs.Left.{left_of_hold}
use Rattle.meet_line.proofs.Taken.{length-filter_map}
use Rattle.meet_core.proofs.seats.table.SeatTable.left.Goals as goal

pub returns-clause-value : goal.returns-clause-value
returns-clause-value g c =
    rw (← c.self.view_is) (c.items_in.ensures ∙ ap (count_by (λ hold. is_some (left_of_hold hold))) c.deref.ensures.value ∙ sym (length-filter_map left_of_hold c.self.inside.holds.items))
