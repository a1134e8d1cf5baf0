-- Proof of `SeatTable::settled`, src/seats/table.rt. How many seats have an open ticket that isn't in the line.
use Rattle.std.proofs.Common.{◌∙◌, sym}
use Rattle.meet_tickets.specs.BySeat.{is_settled}
use Rattle.meet_core.proofs.Counts.{count_by-holds}
use Rattle.meet_core.proofs.seats.table.SeatTable.settled.Goals as goal

pub returns-clause-value : goal.returns-clause-value
returns-clause-value g c = rw (← c.self.view_is) (c.self.invariant.3 ∙ sym (count_by-holds is_settled c.self.inside.holds.items))
