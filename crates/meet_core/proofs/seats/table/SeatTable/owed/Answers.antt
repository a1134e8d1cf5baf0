-- Proof of `SeatTable::owed`, src/seats/table.rt. How many seats have an open ticket.
use Rattle.std.proofs.Common.{◌∙◌, sym}
use Rattle.meet_tickets.specs.BySeat.{is_open}
use Rattle.meet_core.proofs.Counts.{count_by-holds}
use Rattle.meet_core.proofs.seats.table.SeatTable.owed.Goals as goal

pub returns-clause-value : goal.returns-clause-value
returns-clause-value g c = rw (← c.self.view_is) (c.self.invariant.2 ∙ sym (count_by-holds is_open c.self.inside.holds.items))
